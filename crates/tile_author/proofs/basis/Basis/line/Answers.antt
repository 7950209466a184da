use Rattle.std.proofs.Common.{◌≡◌, ◌+◌, ◌*◌, ◌/◌, ◌^◌, ◌<◌, None, sym, ap, ap₂, ◌∙◌, subst, bit_xor, arith}
use Rattle.std.specs.Prelude.{slice_index, slice_index_or, bit_and}
use Rattle.tile_author.specs.Plan.{basis}
use Rattle.tile_author.specs.Table.{entry}
use Rattle.tile_author.proofs.Growth.{seen}
use Rattle.tile_author.proofs.Shortest.{difference_small}
use Rattle.tile_author.proofs.Reading.{no_bits, bits_small, bit_read, bit_small, difference_is_made, one_more_bit, all_bits}
use Rattle.tile_author.proofs.basis.Basis.line.Goals as goal

pub loop-i-init : goal.loop-i-init
loop-i-init c = no_bits c.args.pixels.now c.args.j c.args.line

pub overflow_mul-bits : goal.overflow_mul-bits
overflow_mul-bits c =
    let small = bits_small c.args.pixels.now c.args.j c.args.line c.loop-i.i (omega arith) in
    omega (arith, c.loop-i.invariant)

pub overflow_add-bits : goal.overflow_add-bits
overflow_add-bits c =
    let small = bits_small c.args.pixels.now c.args.j c.args.line c.loop-i.i (omega arith) in
    omega (arith, c.loop-i.invariant, bit_small c.unwrap_or-selection.result c.args.j)

pub returns : goal.returns
returns c =
    c.loop-i.invariant
    ∙ all_bits c.args.pixels.now c.args.j c.args.line c.loop-i.i c.requires.line (omega arith)

pub bounds-self-inside-from : goal.bounds-self-inside-from
bounds-self-inside-from c =
    subst (λ d. d < 16) (sym c.from.ensures)
    (difference_small c.args.pixels.now (6 * c.args.line + c.loop-i.i) c.requires.tile.below)

pub loop-i-preserved : goal.loop-i-preserved
loop-i-preserved c =
    let ps = c.args.pixels.now in
    let i = c.loop-i.i in
    let d = bit_xor (slice_index ps 0) (slice_index ps (6 * c.args.line + i)) in
    let same = c.self.view_is ∙ c.requires.members in
    let here : slice_index_or c.self.inside.selections c.from.result None ≡ entry (basis ps) d =
    ap (λ n. slice_index_or c.self.inside.selections n None) c.from.ensures
    ∙ (seen _ _ _ same c.self.invariant).entries d
    (difference_small ps (6 * c.args.line + i) c.requires.tile.below) in
    ap₂ (λ a b. 2 * a + b) c.loop-i.invariant
    (ap (λ n. bit_and (n / 2 ^ c.args.j) 1) c.unwrap_or-selection.ensures
    ∙ bit_read (basis ps) d c.args.j _ here
    (difference_is_made ps (6 * c.args.line + i) (omega (arith, c.requires.tile.count))))
    ∙ sym (one_more_bit ps c.args.j c.args.line i c.requires.tile.count c.requires.line (omega arith))
