use Rattle.std.proofs.Common.{◌≡◌, ℕ, ◌<◌, length}
use Rattle.std.specs.Prelude.{slice_index}
use Rattle.rw_interleave.specs.Interleave.{place}
use Rattle.rw_mend.proofs.rows.pick.Given as goal

abbrev pub invariant-loop-i : goal.invariant-loop-i
invariant-loop-i l = record {
  size : length l.bytes ≡ 24;
  symbols : (k : ℕ) → k < l.i → slice_index l.bytes k ≡ slice_index l.program (place l.n k);
}
