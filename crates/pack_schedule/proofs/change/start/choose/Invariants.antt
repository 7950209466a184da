use Rattle.std.proofs.Common.{◌≡◌, ◌≤◌, map}
use Rattle.std.specs.Prelude.{Some}
use Rattle.bit_lists.specs.Counting.{below}
use Rattle.pack_schedule.specs.PlannedChange.{planned_length, preferred, first_least}
use Rattle.pack_schedule.proofs.change.start.choose.Given as goal

abbrev pub invariant-loop-colour : goal.invariant-loop-colour
invariant-loop-colour l =
    (l.choice.preset ≡ first_least (planned_length l.script l.k) (preferred l.k) (map Some (below l.colour)))
    × (l.choice.need ≡ planned_length l.script l.k l.choice.preset)
    × (l.choice.need ≤ 3076)
