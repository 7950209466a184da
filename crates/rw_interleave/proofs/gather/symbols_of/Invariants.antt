use Rattle.std.proofs.Common.{◌≡◌, ◌<◌, ◌%◌, ℕ, length}
use Rattle.std.specs.Prelude.{slice_index}
use Rattle.rw_interleave.proofs.gather.symbols_of.Given as goal

abbrev pub invariant-loop-i : goal.invariant-loop-i
invariant-loop-i l = record {
  size : length l.symbols ≡ 96;
  set : (n : ℕ) → n < l.i → slice_index l.symbols n ≡ slice_index l.block n % 64;
}
