use Rattle.std.proofs.Common.{◌≡◌, ◌≤◌, take}
use Rattle.rw_code.specs.Codeword.{differences}
use Rattle.rw_merge.proofs.counting.differing.Given as goal

abbrev pub invariant-loop-i : goal.invariant-loop-i
invariant-loop-i l = (l.count ≤ l.i) × (l.count ≡ differences (take l.i l.one) (take l.i l.other))
