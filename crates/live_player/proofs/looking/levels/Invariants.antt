use Rattle.cdg_screen.specs.Memory.{seen}
use Rattle.std.proofs.Common.{◌≡◌, ◌<◌, ℕ, length}
use Rattle.std.specs.Prelude.{slice_index}
use Rattle.live_player.proofs.looking.levels.Given as goal

abbrev pub invariant-loop-k : goal.invariant-loop-k
invariant-loop-k l = record {
  size : length l.levels ≡ 16;
  shown : (n : ℕ) → n < l.k → slice_index l.levels n ≡ slice_index (seen l.screen).levels n;
  range : (n : ℕ) → n < l.k → slice_index l.levels n < 64;
}
