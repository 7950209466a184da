use Rattle.std.proofs.Common.{◌≡◌, ◌<◌, ℕ, true, get_or}
use Rattle.rw_mend.proofs.parts.are_same.Given as goal

abbrev pub invariant-loop-k : goal.invariant-loop-k
invariant-loop-k l = record {
  sound : l.same ≡ true → (i : ℕ) → i < l.k → get_or l.one i 0 ≡ get_or l.other i 0;
  complete : ((i : ℕ) → i < l.k → get_or l.one i 0 ≡ get_or l.other i 0) → l.same ≡ true;
}
