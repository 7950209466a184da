use Rattle.std.proofs.Common.{◌*◌, All, min}
use Rattle.live_player.specs.Lives.{HasPlayed}
use Rattle.live_player.specs.Lives.Given.{Fed}
use Rattle.live_player.specs.Marks.{given_first, IsMark}
use Rattle.live_player.proofs.marks.seek_block.Given as goal

abbrev pub invariant-loop-part : goal.invariant-loop-part
invariant-loop-part g l = record {
  there : All (IsMark Fed l.fn.form l.fn.lead_in l.fn.blocks) l.fn.marks
      → HasPlayed l.fn.form l.fn.lead_in (given_first Fed (min l.fn.to (l.fn.every * l.part)) l.fn.blocks)
      (g.P.AnyPlayer.played l.player);
  marks : All (IsMark Fed l.fn.form l.fn.lead_in l.fn.blocks) l.fn.marks
      → All (IsMark Fed l.fn.form l.fn.lead_in l.fn.blocks) l.marks;
}
