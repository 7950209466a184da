use Rattle.std.proofs.Common.{◌≡◌, ◌≤◌, ◌+◌, ◌*◌, take}
use Rattle.rw_code.specs.Codeword.{differences}
use Rattle.rw_merge.specs.Agreement.{equally_wrong}
use Rattle.rw_merge.proofs.counting.penalty.Given as goal

abbrev pub invariant-loop-i : goal.invariant-loop-i
invariant-loop-i l = record {
  count : l.penalty
      ≡ 2 * equally_wrong (take l.i l.first-2) (take l.i l.second-2) (take l.i l.word-2)
      + differences (take l.i l.first-2) (take l.i l.second-2);
  few : l.penalty ≤ 2 * l.i;
}
