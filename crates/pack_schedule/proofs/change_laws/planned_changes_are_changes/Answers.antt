use Rattle.pack_schedule.proofs.PlannedLaws.{PlansAreShortest, chosen_is_start, chosen_change, planned_is_shortest}
use Rattle.pack_schedule.proofs.Known.{change_busy}
use Rattle.pack_schedule.proofs.Short.{change_few}
use Rattle.pack_schedule.proofs.change_laws.planned_changes_are_changes.Goals as goal

pub returns-clause-change : goal.returns-clause-change
returns-clause-change c script k small =
    let p = c.plans_are_shortest.ensures in
    let plans : PlansAreShortest = record { turns = p.turns; count = p.count; least = p.least } in
    planned_is_shortest plans script k small

pub returns-clause-few : goal.returns-clause-few
returns-clause-few c script k small =
    let p = c.plans_are_shortest.ensures in
    let plans : PlansAreShortest = record { turns = p.turns; count = p.count; least = p.least } in
    change_few plans script k small

pub returns-clause-start : goal.returns-clause-start
returns-clause-start c = chosen_is_start

pub returns-clause-planned : goal.returns-clause-planned
returns-clause-planned c script k small =
    let p = c.plans_are_shortest.ensures in
    let plans : PlansAreShortest = record { turns = p.turns; count = p.count; least = p.least } in
    chosen_change plans script k small

pub returns-clause-busy : goal.returns-clause-busy
returns-clause-busy c script k small =
    let p = c.plans_are_shortest.ensures in
    let plans : PlansAreShortest = record { turns = p.turns; count = p.count; least = p.least } in
    change_busy script k _ _ (chosen_change plans script k small)
