use Rattle.std.proofs.Common.{◌≡◌, ◌<◌, ◌≤◌, ℕ, length}
use Rattle.std.specs.Prelude.{slice_index}
use Rattle.rw_interleave.proofs.gather.slots_from.Given as goal

abbrev pub invariant-loop-i : goal.invariant-loop-i
invariant-loop-i l = record {
  size : length l.symbols ≡ 168;
  zeros : (n : ℕ) → n < l.first → slice_index l.symbols n ≡ 0;
  rest : (n : ℕ) → l.first ≤ n → n < l.i → slice_index l.symbols n ≡ slice_index l.row n;
}
