use Rattle.std.proofs.Common.{◌≡◌, ℕ, ◌<◌, length, get_or}
use Rattle.cdg_instructions.proofs.writing.write.Given as goal

abbrev pub invariant-loop-k : goal.invariant-loop-k
invariant-loop-k l = (length l.body ≡ 16) × ((j : ℕ) → j < l.k → get_or l.body j 0 ≡ get_or l.content j 0)
