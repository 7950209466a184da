use Rattle.std.proofs.Common.{◌+◌}
use Rattle.live_player.specs.Formats.{AreFirstBytes}
use Rattle.live_player.proofs.line.write_more.Given as goal

abbrev pub invariant-loop-i : goal.invariant-loop-i
invariant-loop-i l = AreFirstBytes l.size (l.from + l.i) l.pixels l.table l.line
