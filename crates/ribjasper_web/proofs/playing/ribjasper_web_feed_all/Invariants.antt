use Rattle.std.proofs.Common.{◌++◌, ℕ, List, map, reverse, take}
use Rattle.raw_subcode.specs.Channels.{blocks_of}
use Rattle.raw_subcode.specs.declared.form.Form.{Form}
use Rattle.live_player.specs.Lives.{Given, Fed, HasPlayed}
use Rattle.live_player.specs.Plain.{player_of}
use Rattle.live_player.specs.Taken.{TakesBlocks}
use Rattle.ribjasper_web.proofs.playing.ribjasper_web_feed_all.Given as goal

abbrev pub invariant-loop-b : goal.invariant-loop-b
invariant-loop-b l = record {
  takes : TakesBlocks (take l.b (blocks_of l.form l.stream)) (player_of l.fn.player) (player_of l.player);
  fed : (begun : Form) (lead_in : ℕ) (given : List Given)
      → HasPlayed begun lead_in given (player_of l.fn.player)
      → HasPlayed begun lead_in (map Fed (reverse (take l.b (blocks_of l.form l.stream))) ++ given)
      (player_of l.player);
}
