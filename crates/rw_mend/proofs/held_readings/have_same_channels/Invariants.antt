use Rattle.std.proofs.Common.{◌≡◌, ◌<◌, ◌/◌, ℕ, true, get_or}
use Rattle.rw_mend.proofs.held_readings.have_same_channels.Given as goal

abbrev pub invariant-loop-k : goal.invariant-loop-k
invariant-loop-k l = l.same ≡ true → (i : ℕ) → i < l.k → get_or l.other i 0 / 64 ≡ get_or l.one i 0 / 64
