use Rattle.std.proofs.Common.{◌*◌, All, min}
use Rattle.live_player.specs.Lives.{HasPlayed}
use Rattle.live_player.specs.Lives.Given.{Drawn}
use Rattle.live_player.specs.Marks.{given_first, IsMark}
use Rattle.raw_subcode.specs.declared.form.Form.TheVariants.{Raw}
use Rattle.live_player.proofs.marks.seek_pack.Given as goal

abbrev pub invariant-loop-part : goal.invariant-loop-part
invariant-loop-part g l = record {
  there : All (IsMark Drawn Raw 0 l.fn.packs) l.fn.marks
      → HasPlayed Raw 0 (given_first Drawn (min l.fn.to (l.fn.every * l.part)) l.fn.packs)
      (g.P.AnyPlayer.played l.player);
  marks : All (IsMark Drawn Raw 0 l.fn.packs) l.fn.marks
      → All (IsMark Drawn Raw 0 l.fn.packs) l.marks;
}
