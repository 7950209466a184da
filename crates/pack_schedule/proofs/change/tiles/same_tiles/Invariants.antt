use Rattle.pack_schedule.proofs.SameTileLaws.{MarksSoFar}
use Rattle.pack_schedule.proofs.change.tiles.same_tiles.Given as goal

abbrev pub invariant-loop-r : goal.invariant-loop-r
invariant-loop-r l = MarksSoFar l.before.pixels l.now.pixels l.r l.marks
