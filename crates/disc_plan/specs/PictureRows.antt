-- The rows of a plan, for programs in C.
use Rattle.std.specs.Prelude.{◌≡◌, ◌==◌, ℕ, ◌<◌, Bool, List, slice_index, slice_index_or, if◌then◌else◌}
use Rattle.picture_script.specs.Script.{Drawing}
use Rattle.pack_schedule.specs.Plans.{IsPlanRow}
use Rattle.pack_schedule.specs.declared.planner.PlanRow.{PlanRow}
use Rattle.disc_plan.specs.declared.picture_rows.PlannedRow.{PlannedRow}

abbrev pub no_disc_row : PlannedRow
no_disc_row = record { line = 0; ready = 0; hold = 0; need = 0; free = 0; first = 0; late = 0 }

-- the row of a picture with this `show` line
abbrev pub planned_row : ℕ → PlanRow → PlannedRow
planned_row line plan = record {
  line = line;
  ready = plan.ready;
  hold = plan.hold;
  need = plan.need;
  free = plan.free;
  first = plan.first;
  late = if plan.late then 1 else 0;
}

-- whether a row is that of a late picture
abbrev pub is_late : PlannedRow → Bool
is_late row = row.late == 1

-- The row is that of picture k, with this `show` line.
abbrev pub IsPlannedRow : List Drawing → ℕ → ℕ → PlannedRow → Type 0
IsPlannedRow script line k row = (plan : PlanRow) × IsPlanRow script k plan × (row ≡ planned_row line plan)

-- The rows are those of the first `count` pictures, with these `show` lines.
abbrev pub ArePlannedRows : List Drawing → List ℕ → ℕ → List PlannedRow → Type 0
ArePlannedRows script lines count rows = (k : ℕ) → k < count
    → IsPlannedRow script (slice_index lines k) k (slice_index_or rows k no_disc_row)
