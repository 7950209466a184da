use Rattle.std.proofs.Common.{[], ◌∷◌, ap, ap₂, subst, ◌∙◌, sym}
use Rattle.cdg_io.specs.Run.{run_state}
use Rattle.cdg_screen.specs.Standing.{standing_after}
use Rattle.live_player.specs.Lives.{instruction_of}
use Rattle.live_player.specs.Changes.{sees, watch_from, KeepsUnchanged}
use Rattle.live_player.specs.declared.change.ScreenChange.{ScreenChange}
use Rattle.live_player.specs.declared.watch.Watch.{Watch}
use Rattle.live_player.proofs.feeding.pack_change.Goals as goal

pub returns : goal.returns
returns c =
    let instr = instruction_of c.args.pack.now in
    let reported =
    ap (λ (w : Watch). w.change)
    (c.see.ensures ∙ ap (sees c.from-watch.result) c.read_pack.ensures.instruction
    ∙ ap (λ (w : Watch). sees w instr) c.from-watch.ensures) in
    record {
      reported = reported;
      keeps =
          λ now whole across down. subst
          (λ (it : ScreenChange). KeepsUnchanged it now (standing_after now (instr ∷ [])))
          (ap₂ (λ h v. (run_state sees (watch_from h v) (instr ∷ [])).change) across down ∙ sym reported)
          (c.unchanged_stays.ensures now (instr ∷ []) whole);
    }
