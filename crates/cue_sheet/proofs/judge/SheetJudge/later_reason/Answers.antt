use Rattle.std.proofs.Common.{true, false}
use Rattle.cue_sheet.proofs.Stepping.{once_reason}
use Rattle.cue_sheet.proofs.judge.SheetJudge.later_reason.Goals as goal

pub returns-in_default : goal.returns-in_default
returns-in_default c = λ said judges.
    once_reason said c.args.line.now true c.in_default.not-Track c.in_default.not-Index
    (c.if-is_repeated.ensures said.section judges.section)

pub returns-in_default-2 : goal.returns-in_default-2
returns-in_default-2 c = λ said judges.
    once_reason said c.args.line.now false c.in_default-2.not-Track c.in_default-2.not-Index
    (c.if-is_repeated.ensures said.section judges.section)
