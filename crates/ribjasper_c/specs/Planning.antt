-- The plan of a disc, and the result if there is none.
use Rattle.std.specs.Prelude.{◌≡◌, ◌≢◌, ◌<◌, ◌⊎◌, ◌↔◌, ℕ, ℤ, pos, List, drop, length}
use Rattle.disc_time.specs.Counts.{most_lead_in, most_program}
use Rattle.disc_plan.specs.Discs.{planned_disc, IsPlan, IsPlanStop}
use Rattle.disc_plan.specs.Reports.{plan_report, stop_report}
use Rattle.disc_plan.specs.declared.picture_rows.PlannedRow.{PlannedRow}
use Rattle.disc_plan.specs.declared.plan.PlannedDisc.{PlannedDisc}
use Rattle.disc_plan.specs.declared.stops.PlanStop.{PlanStop}
use Rattle.disc_plan.specs.declared.stops.PlanStop.TheVariants.{NoRoom, NoMemory}
use Rattle.disc_plan.specs.declared.reports.PlanReport.{PlanReport}

-- the exit status if there is no plan
abbrev pub stop_answer : PlanStop → ℤ
stop_answer (NoRoom pictures blocks) = pos 6
stop_answer NoMemory = pos 7
stop_answer _ = pos 3

-- the report if there is no plan; if the call is out of memory, the report is unchanged
abbrev pub report_at_stop : PlanReport → PlanStop → PlanReport
report_at_stop old NoMemory = old
report_at_stop old stop = stop_report stop

-- The rows of the pictures of a disc are at the front of some rows, with a correct report of the plan; or the report
-- says why there is no plan.
pub record Plans (sheet script : List ℕ) (lead_in audio : ℕ) (old_rows new_rows : List PlannedRow)
    (old_report new_report : PlanReport) (result : ℤ) : Type 0 where
  pub plan : (result ≡ pos 0) ⊎ (result ≡ pos 4) → (disc : PlannedDisc)
      × IsPlan (planned_disc sheet script lead_in audio) new_rows disc
      × (new_report ≡ plan_report disc) × (drop disc.pictures new_rows ≡ drop disc.pictures old_rows)
  pub prompt : result ≡ pos 0 → new_report.late ≡ 0
  pub late : result ≡ pos 4 → 0 < new_report.late
  pub usage : (result ≡ pos 2) ↔ ((most_lead_in < lead_in) ⊎ (most_program < audio))
  pub stop : (result ≡ pos 3) ⊎ (result ≡ pos 6) ⊎ (result ≡ pos 7) → (stop : PlanStop)
      × IsPlanStop (planned_disc sheet script lead_in audio) (length old_rows) stop
      × (result ≡ stop_answer stop) × (new_report ≡ report_at_stop old_report stop)
  pub answer : (result ≡ pos 0) ⊎ (result ≡ pos 2) ⊎ (result ≡ pos 3) ⊎ (result ≡ pos 4) ⊎ (result ≡ pos 6)
      ⊎ (result ≡ pos 7)
  pub rows : result ≢ pos 0 → result ≢ pos 4 → new_rows ≡ old_rows
  pub unused : result ≡ pos 2 → new_report ≡ old_report
