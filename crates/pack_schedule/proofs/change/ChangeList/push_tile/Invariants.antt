use Rattle.std.proofs.Common.{◌≡◌, ◌≤◌, ◌+◌, ◌++◌, take, length}
use Rattle.pack_schedule.proofs.change.ChangeList.push_tile.Given as goal

abbrev pub invariant-loop-instr : goal.invariant-loop-instr
invariant-loop-instr l =
    (l.self ≡ l.fn.self ++ take l.instr-index l.instr-items)
    × (length l.self ≤ length l.fn.self + l.instr-index)
