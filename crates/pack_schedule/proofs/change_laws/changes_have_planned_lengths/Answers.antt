use Rattle.pack_schedule.proofs.PlannedLaws.{PlansAreShortest, planned_is_change, change_length}
use Rattle.pack_schedule.proofs.change_laws.changes_have_planned_lengths.Goals as goal

pub returns-clause-planned : goal.returns-clause-planned
returns-clause-planned c script k start small allowed =
    let p = c.plans_are_shortest.ensures in
    let plans : PlansAreShortest = record { turns = p.turns; count = p.count; least = p.least } in
    planned_is_change plans script k start small allowed

pub returns-clause-length : goal.returns-clause-length
returns-clause-length c script k start instrs small change =
    let p = c.plans_are_shortest.ensures in
    let plans : PlansAreShortest = record { turns = p.turns; count = p.count; least = p.least } in
    change_length plans script k start instrs small change
