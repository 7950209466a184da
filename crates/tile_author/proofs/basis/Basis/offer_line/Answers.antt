use Rattle.std.proofs.Common.{◌≡◌, ℕ, ◌+◌, ◌*◌, ◌<◌, Bool, true, false, List, [], ◌∷◌, ◌++◌, Some, length, set, refl, sym, ap, ◌∙◌, subst, bit_xor, arith}
use Rattle.std.specs.Prelude.{slice_index, if◌then◌else◌}
use Rattle.std.proofs.lemmas.Bool.{eqb-true}
use Rattle.tile_author.specs.Plan.{is_combination}
use Rattle.tile_author.specs.Table.{IsBasis}
use Rattle.tile_author.proofs.Growth.{found, first_member, more_basis, seen}
use Rattle.tile_author.proofs.NoMembers.{none_of}
use Rattle.tile_author.proofs.SameLines.{basis_of, first_pixels, whole_lines, one_more_offered}
use Rattle.tile_author.proofs.Shortest.{difference_small}
use Rattle.tile_author.proofs.basis.Basis.offer_line.Goals as goal
use Rattle.tile_author.proofs.basis.Basis.offer_line.Goals.{then-is_empty, else-is_empty}

-- the basis of one more pixel
after : (ps ms more : List ℕ) (line i : ℕ) (b : Bool) → length ps ≡ 72 → line < 12 → i < 6
    → ms ≡ basis_of ps (6 * line + i)
    → is_combination ms (bit_xor (slice_index ps 0) (slice_index ps (6 * line + i))) ≡ b
    → more ≡ (if b then ms else ms ++ bit_xor (slice_index ps 0) (slice_index ps (6 * line + i)) ∷ [])
    → more ≡ basis_of ps (6 * line + (i + 1))
after ps ms more line i b size line_lt i_lt so_far test new =
    let n = 6 * line + i in
    let d = bit_xor (slice_index ps 0) (slice_index ps n) in
    let next : n + 1 ≡ 6 * line + (i + 1) = omega arith in
    new
    ∙ ap (λ (t : Bool). if t then ms else ms ++ d ∷ []) (sym test)
    ∙ ap (λ ms. if is_combination ms d then ms else ms ++ d ∷ []) so_far
    ∙ sym (one_more_offered ps n (omega (arith, size)))
    ∙ ap (basis_of ps) next

pub loop-i-init : goal.loop-i-init
loop-i-init c = c.requires.before ∙ first_pixels c.args.pixels.now c.args.line

pub bounds-self-inside-from : goal.bounds-self-inside-from
bounds-self-inside-from c =
    subst (λ d. d < 16) (sym c.from.ensures)
    (difference_small c.args.pixels.now (6 * c.args.line + c.loop-i.i) c.requires.tile.below)

pub bounds-self-inside-from-then-is_empty : goal.bounds-self-inside-from-then-is_empty
bounds-self-inside-from-then-is_empty c =
    subst (λ d. d < 16) (sym c.from-then-is_empty.ensures)
    (difference_small c.args.pixels.now (6 * c.args.line + c.loop-i.i) c.requires.tile.below)

pub take_further-requires : goal.take_further-requires
take_further-requires c =
    let small = difference_small c.args.pixels.now (6 * c.args.line + c.loop-i.i) c.requires.tile.below in
    let out =
    found c.loop-i.self c.self.inside.selections _ c.from.result c.is_some.result
    (seen _ _ _ c.self.view_is c.self.invariant).entries small c.from.ensures c.is_some.ensures
    ∙ c.if-is_some.false in
    record { member = small; independent = out }

pub push-requires : goal.push-requires
push-requires c =
    let empty = eqb-true _ _ (sym c.is_empty.ensures ∙ c.if-is_empty.true) in
    (omega arith, omega (arith, empty))

pub invariant_of-self : goal.invariant_of-self
invariant_of-self c =
    let ms = c.loop-i.self in
    let selections = set c.self.inside.selections c.from-then-is_empty.result (Some 1) in
    let b = seen _ _ _ c.self.view_is c.self.invariant in
    let ps = c.args.pixels.now in
    let d = bit_xor (slice_index ps 0) (slice_index ps (6 * c.args.line + c.loop-i.i)) in
    let small : d < 16 =
    difference_small c.args.pixels.now (6 * c.args.line + c.loop-i.i) c.requires.tile.below in
    let out =
    found ms c.self.inside.selections d c.from.result c.is_some.result b.entries small c.from.ensures
    c.is_some.ensures
    ∙ c.if-is_some.false in
    let none =
    sym c.self.view_is
    ∙ none_of c.self.inside.members.items (eqb-true _ _ (sym c.is_empty.ensures ∙ c.if-is_empty.true)) in
    let known =
    first_member c.self.inside.selections ms d c.from-then-is_empty.result none (omega arith) small
    c.from-then-is_empty.ensures out b.entries in
    subst (λ ms. IsBasis ms selections)
    (sym (c.push.ensures.items ∙ ap (λ ms. ms ++ d ∷ []) c.self.view_is))
    (more_basis ms selections d b.independent b.below out small known)

pub loop-i-preserved-then-is_some : goal.loop-i-preserved-then-is_some
loop-i-preserved-then-is_some c =
    let b = seen _ _ _ c.self.view_is c.self.invariant in
    let made =
    found c.loop-i.self c.self.inside.selections _ c.from.result c.is_some.result b.entries
    (difference_small c.args.pixels.now (6 * c.args.line + c.loop-i.i) c.requires.tile.below) c.from.ensures
    c.is_some.ensures
    ∙ c.if-is_some.true in
    after c.args.pixels.now c.loop-i.self c.loop-i.self c.args.line c.loop-i.i true c.requires.tile.count
    c.requires.line (omega arith) c.loop-i.invariant made refl

pub loop-i-preserved : goal.loop-i-preserved
loop-i-preserved c =
    let out =
    found c.loop-i.self c.self.inside.selections _ c.from.result c.is_some.result
    (seen _ _ _ c.self.view_is c.self.invariant).entries
    (difference_small c.args.pixels.now (6 * c.args.line + c.loop-i.i) c.requires.tile.below) c.from.ensures
    c.is_some.ensures
    ∙ c.if-is_some.false in
    let ps = c.args.pixels.now in
    let d = bit_xor (slice_index ps 0) (slice_index ps (6 * c.args.line + c.loop-i.i)) in
    let more : c.if-is_empty.self ≡ c.loop-i.self ++ d ∷ [] = elim c.if-is_empty.branch [
      | then-is_empty w ↦ w.self-is ∙ w.push.ensures.items ∙ ap (λ ms. ms ++ d ∷ []) c.self.view_is
      | else-is_empty w ↦ w.self-is ∙ w.take_further.ensures
    ] in
    after c.args.pixels.now c.loop-i.self c.if-is_empty.self c.args.line c.loop-i.i false
    c.requires.tile.count c.requires.line (omega arith) c.loop-i.invariant out more

pub returns : goal.returns
returns c = c.loop-i.invariant ∙ whole_lines c.args.pixels.now c.args.line c.loop-i.i (omega arith)
