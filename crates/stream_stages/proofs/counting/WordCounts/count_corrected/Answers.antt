use Rattle.std.proofs.Common.{ap, ◌∙◌}
use Rattle.stream_stages.specs.CheckSteps.{count_found}
use Rattle.stream_stages.proofs.Recovers.{found_some, found_none}
use Rattle.stream_stages.proofs.counting.WordCounts.count_corrected.Goals as goal

pub returns-in-Some : goal.returns-in-Some
returns-in-Some c =
    c.count_fixed.ensures
    ∙ ap (count_found c.args.self.now c.args.word.now)
    (found_some c.args.word.now _ c.correct_by_sums.ensures.word c.in-Some.ensures.reads.0)

pub returns-in-None : goal.returns-in-None
returns-in-None c =
    c.count_bad.ensures
    ∙ ap (count_found c.args.self.now c.args.word.now)
    (found_none c.args.word.now c.correct_by_sums.ensures.word c.in-None.ensures.reads)
