use Rattle.std.proofs.Common.{◌≡◌, ◌++◌, ℕ, List, map, reverse, take}
use Rattle.cdg_io.specs.Run.{run_state}
use Rattle.cdg_screen.specs.Standing.{standing_after}
use Rattle.raw_subcode.specs.declared.form.Form.{Form}
use Rattle.live_player.specs.Lives.{Given, Fed, HasPlayed, standing_on}
use Rattle.live_player.specs.Changes.{sees, watch_from, AreDrawnFor, IsWithinScreen}
use Rattle.live_player.specs.Taken.{instructions_from, TakesBlocks}
use Rattle.live_player.proofs.feeding.feed_all.Given as goal

abbrev pub invariant-loop-block : goal.invariant-loop-block
invariant-loop-block g l =
    let before = g.P.AnyPlayer.played l.initial.player in
    let now = g.P.AnyPlayer.played l.player in
    let instrs = instructions_from before.words (take l.block-index l.blocks) in
    record {
      reported : (l.watch ≡ run_state sees (watch_from (standing_on before).h (standing_on before).v) instrs)
          × (standing_on now ≡ standing_after (standing_on before) instrs)
          × AreDrawnFor (take l.block-index l.blocks) before instrs;
      takes : TakesBlocks (take l.block-index l.blocks) before now;
      fed : (form : Form) (lead_in : ℕ) (given : List Given) → HasPlayed form lead_in given before
          → HasPlayed form lead_in (map Fed (reverse (take l.block-index l.blocks)) ++ given) now;
      within : IsWithinScreen l.watch.change;
    }
