use Rattle.std.proofs.Common.{◌≡◌, ◌+◌, ◌*◌, length, refl, rules, arith}
use Rattle.picture_script.proofs.Windows.{row-is_window, row-written}
use Rattle.picture_script.proofs.canvas.Window.draw_row.Goals as goal

pub returns : goal.returns
returns c =
    let full : c.self.inside.pixels.len ≡ length c.self.inside.pixels.items = search rules in
    rw (← c.self.view_is) (row-written c.self.inside.pixels.items c.deref_mut.result.now
    c.copy_from_slice.new.self c.args.colours.now c.self.inside.pixels.len c.args.x c.args.y
    (length c.args.colours.now) c.deref_mut.ensures.value
    c.copy_from_slice.ensures.after c.self.invariant.count full c.requires.width c.requires.height refl)

pub invariant_of-self : goal.invariant_of-self
invariant_of-self c =
    let full : c.self.inside.pixels.len ≡ length c.self.inside.pixels.items = search rules in
    row-is_window c.self.inside.pixels.items c.deref_mut.result.now c.copy_from_slice.new.self
    c.args.colours.now
    c.self.inside.pixels.len (288 * c.args.y + c.args.x) (length c.args.colours.now)
    c.deref_mut.ensures.value c.copy_from_slice.ensures.after c.self.invariant c.requires.range full
    (omega arith) refl
