use Rattle.std.proofs.Common.{◌≡◌, ◌≤◌, ◌<◌, ℕ, get_or, drop}
use Rattle.rw_code.specs.Codeword.{differences}
use Rattle.rw_merge.proofs.counting.next_difference.Given as goal

abbrev pub invariant-loop-i : goal.invariant-loop-i
invariant-loop-i l = record {
  later : l.from ≤ l.i;
  within : l.i ≤ 24;
  equal : (k : ℕ) → l.from ≤ k → k < l.i → get_or l.first k 0 ≡ get_or l.second k 0;
  count : differences (drop l.from l.first) (drop l.from l.second)
      ≡ differences (drop l.i l.first) (drop l.i l.second);
}
