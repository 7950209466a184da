use Rattle.pack_schedule.specs.Brings.{IsChange}
use Rattle.pack_schedule.specs.Change.{IsOrderedChange}
use Rattle.pack_schedule.proofs.Schedules.{is_schedule}
use Rattle.pack_schedule.proofs.laws.packs_are_a_schedule.Goals as goal

pub returns-clause-schedule : goal.returns-clause-schedule
returns-clause-schedule c script blocks survey packs ranges small held within surveyed count are =
    is_schedule IsChange script blocks survey packs
    (λ k. c.needs_are_fewest.ensures.change script k ranges small)
    held within surveyed count are

pub returns-clause-ordered : goal.returns-clause-ordered
returns-clause-ordered c script blocks survey packs small held within surveyed count are =
    is_schedule IsOrderedChange script blocks survey packs
    (λ k. c.planned_changes_are_changes.ensures.change script k small) held within surveyed count are
