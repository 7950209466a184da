use Rattle.std.proofs.Common.{◌≡◌, ◌≤◌, get_or, take}
use Rattle.std.specs.Prelude.{None, count_by}
use Rattle.bit_lists.specs.Counting.{below}
use Rattle.rw_mend.specs.Chosen.{has_symbol}
use Rattle.rw_mend.proofs.parts.matches.Given as goal

abbrev pub invariant-loop-k : goal.invariant-loop-k
invariant-loop-k l = record {
  few : l.matches ≤ l.k;
  count : l.matches
      ≡ count_by (λ k. has_symbol (get_or l.known k None) (get_or l.block k 0)) (take l.k (below 96));
}
