use Rattle.std.proofs.Common.{◌≡◌, ◌<◌, ℕ, [], get_or}
use Rattle.rw_mend.specs.Chosen.{channels_of}
use Rattle.rw_mend.specs.HeldReadings.{held_blocks}
use Rattle.rw_mend.proofs.held_readings.HeldReadings.have_same_channels.Given as goal

abbrev pub invariant-loop-r : goal.invariant-loop-r
invariant-loop-r l =
    (k : ℕ) → k < l.r → channels_of (get_or (held_blocks l.self l.b) k []) ≡ channels_of l.first
