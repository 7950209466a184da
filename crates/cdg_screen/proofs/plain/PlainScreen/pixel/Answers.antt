use Rattle.std.proofs.Common.{◌+◌, ◌<◌, refl, sym, arith}
use Rattle.cdg_screen.specs.Memory.{at, Kept, seen}
use Rattle.cdg_screen.proofs.Lists.{pixel_of_rows}
use Rattle.cdg_screen.proofs.Window.{window_pixel}
use Rattle.cdg_screen.proofs.plain.PlainScreen.pixel.Goals as goal

pub returns-then-is_in_window-clause-pixel : goal.returns-then-is_in_window-clause-pixel
returns-then-is_in_window-clause-pixel c =
    let kept : Kept = record {
      memory = c.self.inside.memory;
      border = c.self.inside.border;
      colours = c.self.inside.colours;
      levels = c.self.inside.levels;
      h = c.self.inside.h;
      v = c.self.inside.v;
    } in
    let (left, right, top, bottom) = c.if-is_in_window.ensures.0 refl in
    let across = c.args.x + c.self.inside.h in
    let down = c.args.y + c.self.inside.v in
    let x : across < 300 = omega (arith, right, c.self.invariant.h_most) in
    let y : down < 216 = omega (arith, bottom, c.self.invariant.v_most) in
    let moved = sym (pixel_of_rows (at c.self.inside.memory) across down x y) in
    rw (← c.self.view_is)
    (window_pixel (seen kept) c.args.x c.args.y c.get.result left right top bottom (cc moved))
