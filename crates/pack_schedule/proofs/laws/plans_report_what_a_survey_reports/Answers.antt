use Rattle.std.proofs.Common.{get_or}
use Rattle.pack_schedule.specs.Plans.{no_row}
use Rattle.pack_schedule.proofs.PlanLaws.{first_is_late, row_is_ready}
use Rattle.pack_schedule.proofs.laws.plans_report_what_a_survey_reports.Goals as goal

pub returns-clause-first : goal.returns-clause-first
returns-clause-first c script rows k are lt first = first_is_late script rows k are lt first

pub returns-clause-none : goal.returns-clause-none
returns-clause-none c script rows are prompt k lt =
    row_is_ready script k (get_or rows k no_row) (are.each k lt) (prompt k lt)
