-- Readings of one stream that lie in memory.
use Rattle.std.specs.Prelude.{◌≡◌, ℕ, zero, suc, ◌-◌, ◌*◌, ◌<◌, ◌≤◌, List, length, map, take, drop}
use Rattle.bit_lists.specs.Counting.{below}
use Rattle.rw_mend.specs.declared.readings.Readings.{Readings}

-- the size in bytes of the program of each reading
abbrev pub size_in : Readings → ℕ
size_in readings = length readings.first.now - readings.start

-- There are 1 to 254 readings, all as long as the first.
pub record AreHeldReadings (readings : Readings) : Type 0 where
  pub some : 0 < readings.count
  pub few : readings.count ≤ 254
  pub start : readings.start ≤ length readings.first.now
  pub others : length readings.others.now ≡ length readings.first.now * (readings.count - 1)

-- the program of reading r
abbrev pub program_in : Readings → ℕ → List ℕ
program_in readings zero = drop readings.start readings.first.now
program_in readings (suc r) = drop readings.start
    (take (length readings.first.now) (drop (length readings.first.now * r) readings.others.now))

-- the programs of all readings
abbrev pub programs_in : Readings → List (List ℕ)
programs_in readings = map (program_in readings) (below readings.count)
