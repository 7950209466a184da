-- Readings one behind another.
use Rattle.std.proofs.Common.{◌≡◌, ℕ, ◌<◌, [], length, get_or, arith}
use Rattle.std.proofs.lemmas.List.FromFn.{get_or-map-range_with_len, length-map-range_with_len}
use Rattle.rw_mend.specs.Readings.{program_in, programs_in}
use Rattle.rw_mend.specs.declared.readings.Readings.{Readings}

pub count_is : (readings : Readings) → length (programs_in readings) ≡ readings.count
count_is readings = length-map-range_with_len (program_in readings) 0 readings.count

pub program_at : (readings : Readings) (r : ℕ) → r < readings.count
    → get_or (programs_in readings) r [] ≡ program_in readings r
program_at readings r lt =
    get_or-map-range_with_len (program_in readings) 0 readings.count r r [] lt (omega arith)
