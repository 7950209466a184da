use Rattle.std.proofs.Common.{◌∙◌, ap, sym}
use Rattle.stream_stages.specs.CheckSteps.{count_after, counts_next}
use Rattle.stream_stages.proofs.counting.WordCounts.count_block.Goals as goal

pub returns-in-None : goal.returns-in-None
unfolding counts_next
returns-in-None c =
    c.count_four_idle.ensures ∙ ap (count_after c.args.self.now) (sym c.in-None.ensures)
