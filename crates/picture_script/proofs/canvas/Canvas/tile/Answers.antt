use Rattle.std.proofs.Common.{◌<◌, ◌∙◌, refl, arith}
use Rattle.std.proofs.lemmas.List.Elements.{All-from_get_or}
use Rattle.picture_script.proofs.Parts.{tile_line, tile_line_size, tile_line_small}
use Rattle.picture_script.proofs.Windows.{same-below}
use Rattle.picture_script.proofs.Drawn.{tile_is, picture_tile_is}
use Rattle.picture_script.proofs.canvas.Canvas.tile.Goals as goal

pub loop-j-init : goal.loop-j-init
loop-j-init c = (refl, (λ q. same-below 72 0 q (omega arith)), (λ q q_lt. absurd (omega arith)))

pub loop-j-preserved : goal.loop-j-preserved
loop-j-preserved c = (
  tile_line_size c.loop-j.pixels c.read_line.new.out c.loop-j.j c.loop-j.invariant.0 c.loop-j-test.true
      c.read_line.ensures.count,
  tile_line_small c.loop-j.pixels c.read_line.new.out c.loop-j.j c.loop-j.invariant.0 c.loop-j-test.true
      c.read_line.ensures.count c.read_line.ensures.range c.loop-j.invariant.1,
  tile_line c.args.self.now.pixels c.loop-j.pixels c.read_line.new.out _ _ c.loop-j.j c.loop-j.invariant.0
      c.loop-j-test.true c.read_line.ensures.count (rw (← c.self.view_is) c.read_line.ensures.pixels)
      c.loop-j.invariant.2,
)

pub unreachable-requires : goal.unreachable-requires
unreachable-requires c =
    c.in-None.ensures (All-from_get_or (λ p. p < 16) c.loop-j.pixels 0 (λ q q_lt. c.loop-j.invariant.1 q))

pub returns-clause-tile : goal.returns-clause-tile
returns-clause-tile c =
    c.in-Some.ensures.1
    ∙ tile_is c.args.self.now.pixels c.loop-j.pixels c.args.row c.args.column c.loop-j.invariant.0
    (λ q q_lt. rw (← c.from.ensures, ← c.from-2.ensures) (c.loop-j.invariant.2 q (omega arith)))

pub returns-clause-picture : goal.returns-clause-picture
returns-clause-picture c script k h =
    c.in-Some.ensures.1
    ∙ picture_tile_is script k c.args.row c.args.column c.args.self.now c.loop-j.pixels c.requires.row_first
    c.requires.row_last c.requires.column_first c.requires.column_last c.loop-j.invariant.0
    (λ q q_lt. rw (← c.from.ensures, ← c.from-2.ensures) (c.loop-j.invariant.2 q (omega arith))) h
