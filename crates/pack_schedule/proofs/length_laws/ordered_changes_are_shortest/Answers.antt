use Rattle.pack_schedule.proofs.PlannedLaws.{PlansAreShortest}
use Rattle.pack_schedule.proofs.Brought.{brings}
use Rattle.pack_schedule.proofs.Shortest.{ChangesAreKnown, not_shorter}
use Rattle.pack_schedule.proofs.length_laws.ordered_changes_are_shortest.Goals as goal

pub returns : goal.returns
returns c script k instrs ranges small change =
    let p = c.plans_are_shortest.ensures in
    let plans : PlansAreShortest = record { turns = p.turns; count = p.count; least = p.least } in
    let l = c.changes_have_planned_lengths.ensures in
    let known : ChangesAreKnown = record { planned = l.planned; length = l.length } in
    record {
      brings =
          λ now before. brings c.instructions_in_turn.ensures c.changes_can_be_written.ensures script k now
          instrs ranges change before;
      shortest =
          λ now others before brought.
          not_shorter plans script k small now others before brought known instrs change;
    }
