use Rattle.std.proofs.Common.{◌+◌}
use Rattle.live_player.specs.Formats.{AreFirstPairs}
use Rattle.live_player.proofs.pairs.write_more_pairs.Given as goal

abbrev pub invariant-loop-i : goal.invariant-loop-i
invariant-loop-i l = AreFirstPairs l.size (l.from + l.i) l.pixels l.pairs l.line
