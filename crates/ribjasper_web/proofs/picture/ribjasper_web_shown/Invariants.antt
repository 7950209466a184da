use Rattle.std.proofs.Common.{◌≡◌, ◌<◌, ℕ, length}
use Rattle.std.specs.Prelude.{slice_index}
use Rattle.cdg_screen.specs.Memory.{seen}
use Rattle.ribjasper_web.proofs.picture.ribjasper_web_shown.Given as goal

abbrev pub invariant-loop-k : goal.invariant-loop-k
invariant-loop-k l = record {
  size : length l.shown.colours ≡ 16;
  levels_size : length l.shown.levels ≡ 16;
  colours : (n : ℕ) → n < l.k
      → slice_index l.shown.colours n ≡ slice_index (seen l.player.screen).colours n;
}

abbrev pub invariant-loop-k-2 : goal.invariant-loop-k-2
invariant-loop-k-2 l = record {
  size : length l.shown.levels ≡ 16;
  colours : (n : ℕ) → n < 16 → slice_index l.shown.colours n ≡ slice_index (seen l.player.screen).colours n;
  levels : (n : ℕ) → n < l.k → slice_index l.shown.levels n ≡ slice_index (seen l.player.screen).levels n;
}
