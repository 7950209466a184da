-- The text of the words that have symbols in a block.
use Rattle.std.proofs.Common.{◌≡◌, ◌≢◌, ℕ, ◌+◌, ◌-◌, ◌*◌, ◌/◌, ◌%◌, ◌<◌, ◌≤◌, List, get_or, take, drop, ap, ◌∙◌, arith}
use Rattle.std.specs.Prelude.{Some}
use Rattle.std.proofs.lemmas.List.{get_or-drop, get_or-take}
use Rattle.rw_interleave.specs.Interleave.{swapped}
use Rattle.rw_mend.specs.Symbols.{AreMendedUnder, held_symbol}
use Rattle.rw_mend.specs.declared.words.Words.{Words}
use Rattle.rw_mend.proofs.Standing.{symbol_there}

-- a symbol of a block whose words were all mended
pub symbol_under : (words : Words) (text : List ℕ) (b first k at_row : ℕ) → AreMendedUnder words b
    → first ≡ 4 * (b - words.lead_in) - 7 → k < 96
    → at_row ≡ 24 * (7 + k / 24 - k % 24 % 8) + swapped (k % 24)
    → held_symbol words text (96 * b + k) ≡ Some (get_or text (24 * first + at_row) 0 % 64)
symbol_under words text b first k at_row are at lt row =
    let p : ℕ = 96 * b + k in
    let slot : p / 24 ≡ 4 * b + k / 24 = omega arith in
    let position : p % 24 ≡ k % 24 = omega arith in
    let delay : p % 24 % 8 ≡ k % 24 % 8 = ap (λ q. q % 8) position in
    let few : k % 24 % 8 < 8 = omega arith in
    let under : k / 24 < 4 = omega (arith, lt) in
    let n : ℕ = first + (7 + k / 24 - k % 24 % 8) in
    let there : p / 24 ≡ 4 * words.lead_in + p % 24 % 8 + n =
    omega (arith, slot, delay, few, at, are.first) in
    let within : n < words.count = omega (arith, at, under, few, are.first, are.last) in
    let found : get_or words.sources.now n 0 ≢ 255 =
    are.found n (omega (arith, at, few, are.first)) (omega (arith, at, under, few, are.first)) in
    let which : 24 * n + swapped (p % 24) ≡ 24 * first + at_row =
    omega (arith, ap swapped position, row) in
    symbol_there words text p n there within found ∙ ap (λ i. Some (get_or text i 0 % 64)) which

-- a symbol of the part of their text
pub row_symbol : (text : List ℕ) (first count j : ℕ) → j < count
    → get_or (take count (drop (24 * first) text)) j 0 ≡ get_or text (24 * first + j) 0
row_symbol text first count j lt =
    get_or-take count (drop (24 * first) text) j 0 lt ∙ get_or-drop (24 * first) text j 0

-- if all words in a part were mended, so were all words of the block
pub under : (words : Words) (b first : ℕ) (sources : List ℕ) → 4 * words.lead_in + 7 ≤ 4 * b
    → first ≡ 4 * b - (4 * words.lead_in + 7) → first + 11 ≤ words.count
    → sources ≡ take 11 (drop first words.sources.now)
    → ((j : ℕ) → j < 11 → get_or sources j 0 ≢ 255) → AreMendedUnder words b
under words b first sources from at fits is found = record {
  first = from;
  last = omega (arith, at, fits, from);
  found =
      λ n low high same.
      let j : ℕ = n - first in
      let small : j < 11 = omega (arith, at, low, high, from) in
      let there : first + j ≡ n = omega (arith, at, low, from) in
      found j small
      (ap (λ l. get_or l j 0) is
      ∙ get_or-take 11 (drop first words.sources.now) j 0 small
      ∙ get_or-drop first words.sources.now j 0
      ∙ ap (λ k. get_or words.sources.now k 0) there
      ∙ same);
}
