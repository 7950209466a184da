use Rattle.std.proofs.Common.{◌∙◌, ap}
use Rattle.cdg_instructions.specs.declared.effect.Effect.{Effect}
use Rattle.cdg_screen.specs.declared.touching.Touched.{Touched}
use Rattle.live_player.specs.Changes.{touched_change, join, offsets_by}
use Rattle.live_player.proofs.Kept.{offsets_of}
use Rattle.live_player.proofs.watch.Watch.see.Goals as goal

pub returns : goal.returns
returns c =
    let watch = c.args.self.now in
    let instr = c.args.instr.now in
    let change =
    c.join.ensures
    ∙ ap (join watch.change) (c.touched_change-change.ensures
    ∙ ap (λ (t : Touched). touched_change t watch.across watch.down) c.touches.ensures) in
    let offsets =
    c.offsets_by-across.ensures
    ∙ ap (λ (e : Effect). offsets_by e (watch.across, watch.down)) c.effect.ensures.effect
    ∙ offsets_of instr (watch.across, watch.down) in
    λ i. record { change = change i; across = (offsets i).0; down = (offsets i).1 }
