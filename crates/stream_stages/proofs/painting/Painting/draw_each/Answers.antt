use Rattle.std.proofs.Common.{◌∙◌, ap, arith}
use Rattle.std.proofs.lemmas.List.{take_all}
use Rattle.stream_stages.specs.Drawn.{draw_after, painting_next}
use Rattle.stream_stages.proofs.Draws.{draw_step, drawn_none_yet}
use Rattle.stream_stages.proofs.painting.Painting.draw_each.Goals as goal

pub loop-word-init : goal.loop-word-init
loop-word-init c = drawn_none_yet _

pub loop-word-preserved : goal.loop-word-preserved
loop-word-preserved c =
    draw_step c.as_slice-word-items.result.now c.loop-word.word-index _ c.args.self.now c.loop-word.self _
    (omega arith) c.word-item.is c.loop-word.invariant c.draw.ensures

pub returns : goal.returns
unfolding painting_next
returns c =
    c.loop-word.invariant
    ∙ ap (draw_after c.args.self.now) (take_all c.loop-word.word-index c.as_slice-word-items.result.now
    (omega arith)
    ∙ c.as_slice-word-items.ensures.value)
