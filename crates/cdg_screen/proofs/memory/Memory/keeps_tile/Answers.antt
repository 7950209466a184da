use Rattle.std.proofs.Common.{arith, refl, ap, sym, ◌∙◌}
use Rattle.std.specs.Prelude.{◌*◌, slice_index}
use Rattle.cdg_screen.proofs.Tiles.{kept_at_first, kept_line, kept_whole, line_of_tile}
use Rattle.cdg_screen.proofs.memory.Memory.keeps_tile.Goals as goal

pub returns-then-not-keeps_line : goal.returns-then-not-keeps_line
returns-then-not-keeps_line c = (
  (λ never. cc),
  λ whole.
      let line =
      line_of_tile c.args.self.now c.args.tile.now.row c.args.tile.now.column
      (slice_index c.args.tile.now.colours 0) (slice_index c.args.tile.now.colours 1) c.args.tile.now.lines
      c.args.tile.now.exclusive c.loop-j.j c.loop-j-test.true (omega arith) (omega arith) whole in
      let kept = c.keeps_line.ensures.1 (simp (c.from-x.ensures, c.from-y.ensures) line) in
      sym c.if-not-keeps_line.true ∙ kept,
)

pub loop-j-init : goal.loop-j-init
loop-j-init c =
    kept_at_first c.args.self.now c.args.tile.now.row c.args.tile.now.column
    (slice_index c.args.tile.now.colours 0) (slice_index c.args.tile.now.colours 1) c.args.tile.now.lines
    c.args.tile.now.exclusive

pub loop-j-preserved : goal.loop-j-preserved
loop-j-preserved c =
    kept_line c.args.self.now c.args.tile.now.row c.args.tile.now.column
    (slice_index c.args.tile.now.colours 0) (slice_index c.args.tile.now.colours 1) (6 * c.from-x.result)
    (12 * c.from-y.result) c.loop-j.j c.args.tile.now.lines c.args.tile.now.exclusive
    (ap (λ n. 6 * n) c.from-x.ensures) (ap (λ n. 12 * n) c.from-y.ensures) c.loop-j.invariant
    (c.keeps_line.ensures.0 c.if-not-keeps_line.false)

pub returns : goal.returns
returns c = (
  (λ held. kept_whole c.args.self.now c.args.tile.now.row c.args.tile.now.column
      (slice_index c.args.tile.now.colours 0) (slice_index c.args.tile.now.colours 1) c.loop-j.j
      c.args.tile.now.lines c.args.tile.now.exclusive (omega arith) c.loop-j.invariant),
  λ kept. refl,
)
