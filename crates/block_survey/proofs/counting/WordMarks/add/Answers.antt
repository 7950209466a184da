use Rattle.std.proofs.Common.{◌∙◌, ap}
use Rattle.block_survey.specs.Rows.{marked_found}
use Rattle.stream_stages.proofs.Recovers.{found_some, found_none}
use Rattle.block_survey.proofs.Counts.{bad_more}
use Rattle.block_survey.proofs.counting.WordMarks.add.Goals as goal

pub returns-in-Some : goal.returns-in-Some
returns-in-Some c =
    c.add_fixed.ensures
    ∙ ap (marked_found c.args.self.now c.args.word.now)
    (found_some c.args.word.now _ c.correct.ensures.word c.in-Some.ensures.reads.0)

pub returns-in-None : goal.returns-in-None
returns-in-None c =
    bad_more c.args.self.now c.args.word.now
    ∙ ap (marked_found c.args.self.now c.args.word.now)
    (found_none c.args.word.now c.correct.ensures.word c.in-None.ensures.reads)
