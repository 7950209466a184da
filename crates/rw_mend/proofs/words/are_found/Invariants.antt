use Rattle.std.proofs.Common.{◌≢◌, ◌<◌, ℕ, get_or}
use Rattle.rw_mend.proofs.words.are_found.Given as goal

abbrev pub invariant-loop-source : goal.invariant-loop-source
invariant-loop-source l = (j : ℕ) → j < l.source-index → get_or l.sources j 0 ≢ 255
