use Rattle.std.proofs.Common.{◌≡◌, ◌<◌, ℕ, length}
use Rattle.std.specs.Prelude.{slice_index}
use Rattle.cdg_screen.specs.Memory.{seen}
use Rattle.ribjasper_web.specs.Shown.{opaque}
use Rattle.ribjasper_web.proofs.picture.opaque_colours.Given as goal

abbrev pub invariant-loop-k : goal.invariant-loop-k
invariant-loop-k l = record {
  size : length l.table ≡ 16;
  shown : (n : ℕ) → n < l.k → slice_index l.table n ≡ opaque (slice_index (seen l.screen).colours n);
}
