use Rattle.std.proofs.Common.{◌*◌}
use Rattle.live_player.specs.Formats.{AreFirstPairs}
use Rattle.live_player.proofs.pairs.write_pairs.Given as goal

abbrev pub invariant-loop-r : goal.invariant-loop-r
invariant-loop-r l = AreFirstPairs l.size (4 * l.r) l.pixels l.pairs l.line
