-- A row for each picture of a script, in time or late. A late picture does not change the other rows.
use Rattle.std.specs.Prelude.{◌≡◌, ℕ, ◌<◌, true, false, List, length, slice_index_or}
use Rattle.picture_script.specs.Script.{Drawing, pictures, ready_time, hold_time}
use Rattle.pack_schedule.specs.Brings.{IsNeed}
use Rattle.pack_schedule.specs.Schedule.{start_of, free_packs, IsInTime}
use Rattle.pack_schedule.specs.declared.planner.PlanRow.{PlanRow}

abbrev pub no_row : PlanRow
no_row = record { ready = 0; hold = 0; need = 0; free = 0; first = 0; late = false }

-- The row has the times of picture k, the number of instructions that it needs, the number of packs that are free for it,
-- the first of them, and whether the picture is late.
pub record IsPlanRow (script : List Drawing) (k : ℕ) (row : PlanRow) : Type 0 where
  pub ready : row.ready ≡ ready_time script k
  pub hold : row.hold ≡ hold_time script k
  pub need : IsNeed script k row.need
  pub free : row.free ≡ free_packs script k
  pub first : row.first ≡ start_of script k
  pub late : row.late ≡ true → ¬ IsInTime script k row.need
  pub in_time : row.late ≡ false → IsInTime script k row.need

-- There is a row for each picture, in order.
pub record ArePlanRows (script : List Drawing) (rows : List PlanRow) : Type 0 where
  pub count : length rows ≡ pictures script
  pub each : (k : ℕ) → k < pictures script → IsPlanRow script k (slice_index_or rows k no_row)

-- Row k is late, and no row before it is late.
abbrev pub IsFirstLate : List PlanRow → ℕ → Type 0
IsFirstLate rows k = ((slice_index_or rows k no_row).late ≡ true)
    × ((j : ℕ) → j < k → (slice_index_or rows j no_row).late ≡ false)

-- a script, and the number of its rows so far
pub record Planning : Type 0 where
  pub script : List Drawing
  pub given : ℕ
