use Rattle.std.proofs.Common.{◌≡◌, ◌<◌, ◌+◌, ◌-◌, ◌*◌, ◌/◌, ◌%◌, ℕ, List, length, get_or, take, drop, sym, ap, ◌∙◌, refl, arith, length-take, length-drop}
use Rattle.std.specs.Prelude.{None, Some}
use Rattle.std.proofs.Math.ListN.{length-set}
use Rattle.std.proofs.lemmas.List.FromFn.{get_or-map-range_with_len}
use Rattle.rw_mend.specs.Chosen.{symbol_or}
use Rattle.rw_mend.specs.Symbols.{held_symbol, held_symbols}
use Rattle.rw_mend.proofs.Bytes.{block_of_bytes, byte_set}
use Rattle.rw_mend.proofs.Under.{row_symbol, symbol_under}
use Rattle.rw_mend.proofs.words.Words.mended_block.Goals as goal

pub bounds-row-text_place : goal.bounds-row-text_place
bounds-row-text_place c =
    let first : ℕ = 4 * (c.args.b - c.args.self.now.lead_in) - 7 in
    let n : ℕ = 24 * (first + 11) - 24 * first in
    let rest : List ℕ = drop (24 * first) c.args.text.now in
    omega (
      arith,
      c.text_place.ensures.bound,
      length-take n rest,
      length-drop (24 * first) c.args.text.now,
      c.requires.text,
      c.requires.mended.first,
      c.requires.mended.last,
    )

pub loop-k-preserved : goal.loop-k-preserved
loop-k-preserved c =
    let words = c.args.self.now in
    let text = c.args.text.now in
    let b = c.args.b in
    let first : ℕ = 4 * (b - words.lead_in) - 7 in
    let n : ℕ = 24 * (first + 11) - 24 * first in
    let block = c.loop-k.block in
    let k = c.loop-k.k in
    let f : ℕ = get_or c.args.framed.now k 0 in
    let at : ℕ = c.text_place.result in
    let symbol : ℕ = get_or (take n (drop (24 * first) text)) at 0 % 64 in
    let x : ℕ = f / 64 * 64 + symbol in
    let within : k < length block = omega (arith, c.loop-k-test.true, c.loop-k.invariant.size) in
    let small : at < n = omega (arith, c.text_place.ensures.bound) in
    let low : x % 64 ≡ symbol = omega arith in
    record {
      size = length-set block k x ∙ c.loop-k.invariant.size;
      high = byte_set (λ j y. y / 64 ≡ get_or c.args.framed.now j 0 / 64) block k x within
          c.loop-k.invariant.high (omega arith);
      low = byte_set (λ j y. held_symbol words text (96 * b + j) ≡ Some (y % 64)) block k x within
          c.loop-k.invariant.low
          (symbol_under words text b first k at c.requires.mended refl (omega (arith, c.loop-k-test.true))
          c.text_place.ensures.value
          ∙ ap (λ s. Some (s % 64)) (sym (row_symbol text first n at small))
          ∙ ap Some (sym low));
    }

pub returns : goal.returns
returns c read =
    let words = c.args.self.now in
    let text = c.args.text.now in
    let b = c.args.b in
    block_of_bytes (held_symbols words text b) c.args.framed.now read c.loop-k.block c.requires.framed
    c.loop-k.invariant.size
    (λ k lt. c.loop-k.invariant.high k (omega (arith, lt, c.loop-k-test.false)))
    (λ k lt.
    sym
    (ap (λ s. symbol_or s (get_or read k 0))
    (get_or-map-range_with_len (λ (j : ℕ). held_symbol words text (96 * b + j)) 0 96 k k None lt (omega arith)
    ∙ c.loop-k.invariant.low k (omega (arith, lt, c.loop-k-test.false)))))
