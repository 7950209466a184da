use Rattle.std.proofs.Common.{◌≤◌, ℕ, [], get_or, length, ap, sym, ◌∙◌, arith, rules}
use Rattle.cdtext_packs.specs.Writing.{holders}
use Rattle.cdtext_packs.proofs.Joined.{holders-at, length-joined_more, string_at}
use Rattle.cdtext_packs.proofs.map.Strings.holder.Goals as goal

pub loop-place-preserved : goal.loop-place-preserved
loop-place-preserved c =
    let s = c.args.self.now in
    let at =
    string_at c.self.inside.items.items s c.loop-place.place c.index.result.now c.self.view_is
    (search rules) c.index.ensures in
    let more = length-joined_more s c.loop-place.place at.inside in
    let size = ap length at.string_is in
    omega arith

pub returns-then-offset-len-clause-holder : goal.returns-then-offset-len-clause-holder
returns-then-offset-len-clause-holder c =
    let s = c.args.self.now in
    let at =
    string_at c.self.inside.items.items s c.loop-place.place c.index.result.now c.self.view_is
    (search rules) c.index.ensures in
    let within : c.loop-place.offset ≤ length (get_or s c.loop-place.place []) =
    omega (arith, ap length at.string_is) in
    ap (λ (k : ℕ). get_or (holders 0 s) k (0, 0)) (sym c.loop-place.invariant)
    ∙ holders-at 0 s c.loop-place.place c.loop-place.offset at.inside within
    ∙ ap (λ (k : ℕ). (k, c.loop-place.offset)) (omega arith)
