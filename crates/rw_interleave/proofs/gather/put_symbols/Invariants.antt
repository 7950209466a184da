use Rattle.std.proofs.Common.{◌≡◌, ◌<◌, ◌+◌, ◌%◌, ℕ, length}
use Rattle.std.specs.Prelude.{slice_index}
use Rattle.rw_interleave.proofs.gather.put_symbols.Given as goal

abbrev pub invariant-loop-i : goal.invariant-loop-i
invariant-loop-i l = record {
  size : length l.row ≡ 264;
  before : (n : ℕ) → n < 168 → slice_index l.row n ≡ slice_index l.fn.row n;
  block : (n : ℕ) → n < l.i → slice_index l.row (168 + n) ≡ slice_index l.block n % 64;
}
