use Rattle.std.proofs.Common.{◌≡◌, take}
use Rattle.rw_code.specs.Codeword.{weighted_sum}
use Rattle.rw_merge.proofs.elimination.sum.Given as goal

abbrev pub invariant-loop-i : goal.invariant-loop-i
invariant-loop-i l = l.sum ≡ weighted_sum l.j (take l.i l.word)
