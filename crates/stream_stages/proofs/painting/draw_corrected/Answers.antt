use Rattle.cdg_screen.specs.Memory.{seen}
use Rattle.std.proofs.Common.{ap, ◌∙◌}
use Rattle.stream_stages.specs.Drawn.{entry_drawn}
use Rattle.stream_stages.proofs.Recovers.{found_some, found_none, bad_some, bad_none}
use Rattle.stream_stages.proofs.painting.draw_corrected.Goals as goal

pub returns-in-Some-clause-screen : goal.returns-in-Some-clause-screen
returns-in-Some-clause-screen c =
    c.carry_out.ensures
    ∙ ap (entry_drawn (seen c.args.screen.now))
    (found_some c.args.word.now _ c.correct.ensures.word c.in-Some.ensures.reads.0)

pub returns-in-Some-clause-bad : goal.returns-in-Some-clause-bad
returns-in-Some-clause-bad c =
    bad_some _ _ _ (found_some c.args.word.now _ c.correct.ensures.word c.in-Some.ensures.reads.0)

pub returns-in-None-clause-screen : goal.returns-in-None-clause-screen
returns-in-None-clause-screen c =
    ap (entry_drawn (seen c.args.screen.now))
    (found_none c.args.word.now c.correct.ensures.word c.in-None.ensures.reads)

pub returns-in-None-clause-bad : goal.returns-in-None-clause-bad
returns-in-None-clause-bad c =
    c.saturating_add.ensures
    ∙ bad_none _ _ (found_none c.args.word.now c.correct.ensures.word c.in-None.ensures.reads)
