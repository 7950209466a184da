use Rattle.std.proofs.Common.{◌≡◌, ◌≢◌, ◌+◌, ◌*◌, ◌%◌, ◌<◌, ℕ, [], length, take, All, refl, sym, ap, ◌∙◌, subst, rules, arith, slice_index_or, Bool, false, ◌==◌, List}
use Rattle.std.proofs.lemmas.List.{get_or_read_under}
use Rattle.std.proofs.lemmas.List.Elements.{All-append, All-replicate}
use Rattle.std.proofs.lemmas.Bool.{eqb-false}
use Rattle.std.proofs.Math.Nat.{mod-lt}
use Rattle.cdtext_packs.specs.LeadIn.{lead_in_slot, pack_symbols}
use Rattle.cdtext_packs.proofs.Slots.{none_symbols, some_slot, slots_more, slot_written, length-written}
use Rattle.cdtext_packs.proofs.lead_in_texts.lead_in_symbols.Goals as goal

pub returns-then-is_empty-clause-symbols : goal.returns-then-is_empty-clause-symbols
returns-then-is_empty-clause-symbols c = sym (none_symbols c.args.packs.now c.args.l (search rules))

pub loop-k-preserved : goal.loop-k-preserved
loop-k-preserved c =
    let packs = c.args.packs.now in
    let k = c.loop-k.k in
    let j : ℕ = 4 * c.args.l + k in
    let slot = c.text_symbols.result in
    let size : length slot ≡ 24 = search rules in
    let copied : c.copy_from_slice.new.self ≡ slot = c.copy_from_slice.ensures.after in
    let some : length packs ≢ 0 = search rules in
    let pack : c.bytes.result ≡ slice_index_or packs (j % length packs) [] =
    c.bytes.ensures
    ∙ get_or_read_under packs (j % length packs) (length packs) c.index-packs-l.result [] c.index-packs-l.is
    (search rules) refl in
    let is : slot ≡ lead_in_slot packs j =
    c.text_symbols.ensures.symbols ∙ ap pack_symbols pack ∙ sym (some_slot packs j some) in
    let before = take (24 * k) c.loop-k.symbols in
    let written =
    slot_written c.loop-k.symbols c.copy_from_slice.new.self slot k c.loop-k.invariant.size size copied
    c.loop-k-test.true in
    record {
      size =
          length-written c.loop-k.symbols c.copy_from_slice.new.self slot k c.loop-k.invariant.size size
          copied c.loop-k-test.true;
      slots = written ∙ slots_more packs c.args.l k before slot c.loop-k.invariant.slots is;
      bound =
          subst (All (λ s. s < 64)) (sym written) (All-append (λ s. s < 64) before slot
          c.loop-k.invariant.bound c.text_symbols.ensures.bound);
    }

pub returns-then-is_empty-clause-bound : goal.returns-then-is_empty-clause-bound
returns-then-is_empty-clause-bound c = All-replicate (λ s. s < 64) 96 0 (omega arith)

pub loop-k-init : goal.loop-k-init
loop-k-init c = record { size = refl; slots = refl; bound = λ i d inside. absurd (omega arith) }

-- there are packs
some : (packs : List (List ℕ)) (empty : Bool) → empty ≡ false → empty ≡ (length packs == 0)
    → 0 < length packs
some packs empty full is =
    let none : length packs ≢ 0 = eqb-false (length packs) 0 (sym is ∙ full) in
    omega arith

pub nonzero_rem-pack : goal.nonzero_rem-pack
nonzero_rem-pack c = some c.args.packs.now c.is_empty.result c.if-is_empty.false c.is_empty.ensures

pub bounds-packs-l : goal.bounds-packs-l
bounds-packs-l c =
    mod-lt (4 * c.args.l + c.loop-k.k) (some c.args.packs.now c.is_empty.result c.if-is_empty.false
    c.is_empty.ensures)

pub overflow_mul-pack : goal.overflow_mul-pack
overflow_mul-pack c = omega arith

pub overflow_add-pack : goal.overflow_add-pack
overflow_add-pack c = omega arith

pub overflow_mul-symbols : goal.overflow_mul-symbols
overflow_mul-symbols c = omega arith

pub overflow_mul-k : goal.overflow_mul-k
overflow_mul-k c = omega arith

pub overflow_add-k : goal.overflow_add-k
overflow_add-k c = omega arith
