use Rattle.std.proofs.Common.{◌≢◌, ◌<◌, ◌-◌, ℕ}
use Rattle.gf64.specs.Field.{alpha_power}
use Rattle.rw_merge.proofs.places.further_position.Given as goal

abbrev pub invariant-loop-j : goal.invariant-loop-j
invariant-loop-j l = (k : ℕ) → k < l.j → alpha_power (23 - k) ≢ l.ratio
