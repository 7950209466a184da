use Rattle.std.proofs.Common.{◌≡◌, ◌+◌, ◌*◌, ◌≤◌, ◌++◌, length}
use Rattle.pack_schedule.proofs.PlanLists.{plans_so_far}
use Rattle.pack_schedule.proofs.change.ChangeList.push_tiles.Given as goal

abbrev pub invariant-loop-i : goal.invariant-loop-i
invariant-loop-i l =
    (l.self ≡ l.fn.self ++ plans_so_far l.script l.k l.preset l.i) × (length l.self ≤ 4 + 4 * l.i)
