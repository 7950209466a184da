use Rattle.std.proofs.Common.{◌≡◌, ◌+◌, ◌*◌, ℕ, length, replicate, ap, ◌∙◌, rules, arith}
use Rattle.std.proofs.lemmas.List.{length-replicate}
use Rattle.picture_script.proofs.Windows.{row-is_window, row-filled, part-length, solid-small}
use Rattle.picture_script.proofs.canvas.Window.fill_row.Goals as goal

pub invariant_of-self : goal.invariant_of-self
invariant_of-self c =
    let full : c.self.inside.pixels.len ≡ length c.self.inside.pixels.items = search rules in
    let size =
    part-length c.deref_mut.result.now (288 * c.args.y + c.args.x) c.args.width
    (omega (arith, c.self.invariant.count, ap length c.deref_mut.ensures.value)) in
    let filled : c.fill.new.self ≡ replicate c.args.width c.args.colour =
    c.fill.ensures.after (λ y e. e) ∙ ap (λ n. replicate n c.args.colour) size in
    row-is_window c.self.inside.pixels.items c.deref_mut.result.now c.fill.new.self
    (replicate c.args.width c.args.colour) c.self.inside.pixels.len (288 * c.args.y + c.args.x) c.args.width
    c.deref_mut.ensures.value
    filled c.self.invariant (solid-small c.args.width c.args.colour c.requires.range) full (omega arith)
    (length-replicate {A = ℕ} c.args.width c.args.colour)

pub returns : goal.returns
returns c =
    let full : c.self.inside.pixels.len ≡ length c.self.inside.pixels.items = search rules in
    let size =
    part-length c.deref_mut.result.now (288 * c.args.y + c.args.x) c.args.width
    (omega (arith, c.self.invariant.count, ap length c.deref_mut.ensures.value)) in
    let filled : c.fill.new.self ≡ replicate c.args.width c.args.colour =
    c.fill.ensures.after (λ y e. e) ∙ ap (λ n. replicate n c.args.colour) size in
    rw (← c.self.view_is) (row-filled c.self.inside.pixels.items c.deref_mut.result.now c.fill.new.self
    c.self.inside.pixels.len c.args.x c.args.y c.args.width c.args.colour c.deref_mut.ensures.value
    filled c.self.invariant.count full c.requires.width c.requires.height)
