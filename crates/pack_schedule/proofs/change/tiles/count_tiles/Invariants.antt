use Rattle.pack_schedule.proofs.Counting.{AreKept, Counted}
use Rattle.pack_schedule.proofs.change.tiles.count_tiles.Given as goal

abbrev pub invariant-loop-i : goal.invariant-loop-i
invariant-loop-i l =
    Counted l.counts.stands l.counts.whole l.counts.single l.script l.k l.i
    × AreKept l.script l.k l.i l.weights
