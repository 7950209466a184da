use Rattle.std.proofs.Common.{◌≡◌, ◌+◌, ◌*◌, ◌%◌, ◌<◌, ap, sym, ◌∙◌, arith}
use Rattle.cdg_screen.specs.Memory.{MemoryRows}
use Rattle.cdg_screen.proofs.Tiles.{line_more}
use Rattle.cdg_screen.proofs.memory.Memory.draw.Goals as goal

pub loop-j-preserved : goal.loop-j-preserved
loop-j-preserved c =
    let g = c.self.invariant in
    let (left_same, top_same, before) = c.loop-j.invariant in
    let (left_kept, top_kept) = c.draw_line.ensures.origin in
    let y_lt : 12 * c.args.row + c.loop-j.j < 216 = omega (arith, c.requires.row) in
    let left : c.self.inside.left ≡ c.loop-j.self.left =
    ap (λ (memory : MemoryRows). memory.left) c.self.view_is ∙ sym left_same in
    let top : c.self.inside.top ≡ c.loop-j.self.top =
    ap (λ (memory : MemoryRows). memory.top) c.self.view_is ∙ sym top_same in
    let down : c.wrapped-top.result + c.loop-j.j
    ≡ (12 * c.args.row + c.loop-j.j + c.loop-j.self.top) % 216 =
    omega (arith, c.wrapped-top.ensures, g.top_whole, g.top_below, c.loop-j-test.true) in
    let there =
    c.draw_line.ensures.drawn c.args.column (12 * c.args.row + c.loop-j.j) c.requires.column y_lt
    (c.wrapped-left.ensures ∙ ap (λ n. (6 * c.args.column + n) % 300) left) down in (
      left_kept ∙ left_same,
      top_kept ∙ top_same,
      line_more c.args.self.now c.loop-j.self c.draw_line.new.self c.args.row c.args.column _ _ c.loop-j.j
          c.args.lines.now c.line_pixels-pixels.result c.args.exclusive (omega arith) c.requires.row
          c.requires.column c.line_pixels-pixels.ensures.pixels before there,
    )
