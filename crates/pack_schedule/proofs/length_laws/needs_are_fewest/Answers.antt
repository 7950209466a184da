use Rattle.std.proofs.Common.{length, refl}
use Rattle.pack_schedule.specs.PlannedChange.{planned_change}
use Rattle.pack_schedule.proofs.Shortest.{late_needs_more, one_need}
use Rattle.pack_schedule.proofs.length_laws.needs_are_fewest.Goals as goal

pub returns-clause-change : goal.returns-clause-change
returns-clause-change c script k ranges small =
    c.ordered_changes_are_shortest.ensures script k (planned_change script k) ranges small
    (c.planned_changes_are_changes.ensures.change script k small)

pub returns-clause-planned : goal.returns-clause-planned
returns-clause-planned c script k need ranges small is =
    one_need script k need (length (planned_change script k)) is
    (planned_change script k, returns-clause-change c script k ranges small, refl)

pub returns-clause-one : goal.returns-clause-one
returns-clause-one c = one_need

pub returns-clause-late : goal.returns-clause-late
returns-clause-late c script k need free order ranges small late = record {
  fewest = late.need_is;
  more = late_needs_more script k need free order late;
}
