use Rattle.std.proofs.Common.{◌≡◌, ℕ, ◌<◌, false}
use Rattle.rw_mend.specs.Choice.{is_best, candidate_of_reading}
use Rattle.rw_mend.proofs.choice.first_best.Given as goal

abbrev pub invariant-loop-r : goal.invariant-loop-r
invariant-loop-r l = (k : ℕ) → k < l.r → is_best l.candidates (candidate_of_reading l.candidates k) ≡ false
