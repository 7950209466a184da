use Rattle.std.proofs.Common.{◌≡◌, ◌<◌, ◌+◌, ℕ, length}
use Rattle.std.specs.Prelude.{slice_index}
use Rattle.rw_interleave.proofs.gather.put.Given as goal

abbrev pub invariant-loop-i : goal.invariant-loop-i
invariant-loop-i l = record {
  size : length l.row ≡ 264;
  before : (n : ℕ) → n < l.at → slice_index l.row n ≡ slice_index l.fn.row n;
  put : (n : ℕ) → n < l.i → slice_index l.row (l.at + n) ≡ slice_index l.bytes n;
}
