use Rattle.std.proofs.Common.{◌≡◌, ◌++◌, ℕ, List, map, reverse, take}
use Rattle.cdg_io.specs.Run.{run_state}
use Rattle.raw_subcode.specs.declared.form.Form.{Form}
use Rattle.live_player.specs.Lives.{Given, Drawn, HasPlayed, instruction_of, standing_on}
use Rattle.live_player.specs.Changes.{sees, watch_from, IsWithinScreen}
use Rattle.live_player.specs.Taken.{DrawsPacks}
use Rattle.live_player.proofs.feeding.draw_all.Given as goal

abbrev pub invariant-loop-pack : goal.invariant-loop-pack
invariant-loop-pack g l =
    let before = g.P.AnyPlayer.played l.initial.player in
    let now = g.P.AnyPlayer.played l.player in
    record {
      reported : l.watch
          ≡ run_state sees (watch_from (standing_on before).h (standing_on before).v)
          (map instruction_of (take l.pack-index l.packs));
      draws : DrawsPacks (take l.pack-index l.packs) before now;
      drawn : (form : Form) (lead_in : ℕ) (given : List Given) → HasPlayed form lead_in given before
          → HasPlayed form lead_in (map Drawn (reverse (take l.pack-index l.packs)) ++ given) now;
      within : IsWithinScreen l.watch.change;
    }
