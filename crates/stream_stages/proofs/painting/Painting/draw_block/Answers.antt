use Rattle.std.proofs.Common.{◌∙◌, ap, sym}
use Rattle.stream_stages.specs.Drawn.{draw_after, painting_next}
use Rattle.stream_stages.proofs.painting.Painting.draw_block.Goals as goal

pub returns-in-None : goal.returns-in-None
unfolding painting_next
returns-in-None c = c.draw_four_idle.ensures ∙ ap (draw_after c.args.self.now) (sym c.in-None.ensures)
