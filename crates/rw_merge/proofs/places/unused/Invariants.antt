use Rattle.std.proofs.Common.{◌≡◌, ◌⊎◌, ◌<◌, ℕ}
use Rattle.rw_merge.proofs.places.unused.Given as goal

abbrev pub invariant-loop-position : goal.invariant-loop-position
invariant-loop-position l = (k : ℕ) → k < l.position → (k ≡ l.one) ⊎ ((k ≡ l.two) ⊎ (k ≡ l.three))
