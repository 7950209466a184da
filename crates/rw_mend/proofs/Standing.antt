-- The places of the symbols of words in a stream.
use Rattle.std.proofs.Common.{◌≡◌, ◌≢◌, ℕ, ◌+◌, ◌-◌, ◌*◌, ◌/◌, ◌%◌, ◌<◌, Bool, true, false, ◌==◌, List, get_or, refl, sym, ap, inl, inr, ◌∙◌, arith}
use Rattle.std.specs.Prelude.{Option, Some, None, ◌&&◌, if◌then◌else◌, nat_lt, not}
use Rattle.std.proofs.lemmas.Bool.{cases_lt, eq-eqb, eqb-true, le-ltb, lt-ltb, ne_eqb}
use Rattle.bit_lists.proofs.Tests.{all_below, all_below-at}
use Rattle.rw_interleave.specs.Interleave.{swapped}
use Rattle.rw_interleave.proofs.Places.{swapped-lt}
use Rattle.rw_mend.specs.Chosen.{symbol_or}
use Rattle.rw_mend.specs.Symbols.{first_slot, held_symbol, stream_place, text_symbol}
use Rattle.rw_mend.specs.declared.words.Words.{Words}

-- whether exchanging symbol i twice changes nothing
turns_back : ℕ → Bool
turns_back i = swapped (swapped i) == i

test_back : all_below turns_back 24 ≡ true
unfolding all_below turns_back swapped
test_back = refl

pub swapped-swapped : (i : ℕ) → i < 24 → swapped (swapped i) ≡ i
unfolding turns_back
swapped-swapped i lt = eqb-true _ _ (all_below-at turns_back 24 i test_back lt)

-- the slot and the position of a symbol of a word
pub slot_of : (lead_in n i p : ℕ) → i < 24 → stream_place lead_in n i ≡ p
    → (p % 24 ≡ swapped i) × (p / 24 ≡ 4 * lead_in + p % 24 % 8 + n)
slot_of lead_in n i p lt at =
    let s : ℕ = swapped i in
    let small : s < 24 = swapped-lt i lt in
    let here : 24 * (4 * lead_in + (n + s % 8)) + s ≡ p = omega (arith, at) in
    let position : p % 24 ≡ s = omega (arith, here, small) in
    let slot : p / 24 ≡ 4 * lead_in + (n + s % 8) = omega (arith, here, small) in
    (position, slot ∙ omega (arith, ap (λ q. q % 8) position))

-- the number of a symbol in its word, from its place
pub symbol_of : (lead_in n i p : ℕ) → i < 24 → stream_place lead_in n i ≡ p → i ≡ swapped (p % 24)
symbol_of lead_in n i p lt at =
    sym (swapped-swapped i lt) ∙ ap swapped (sym (slot_of lead_in n i p lt at).0)

pub stands_at : (lead_in n p : ℕ) → p / 24 ≡ 4 * lead_in + p % 24 % 8 + n
    → stream_place lead_in n (swapped (p % 24)) ≡ p
stands_at lead_in n p slot =
    let q : ℕ = p % 24 in
    let back : swapped (swapped q) ≡ q = swapped-swapped q (omega arith) in
    ap (λ s. 96 * lead_in + (24 * (n + s % 8) + s)) back ∙ omega (arith, slot)

-- ---- The symbol at a byte.

-- no word is there
pub none_before : (words : Words) (text : List ℕ) (p : ℕ) → p / 24 < 4 * words.lead_in + p % 24 % 8
    → held_symbol words text p ≡ None
unfolding held_symbol
none_before words text p before =
    ap (λ t. if t then None else text_symbol words text p (p / 24 - first_slot words.lead_in p))
    (lt-ltb (p / 24) (4 * words.lead_in + p % 24 % 8) before)

-- word n has a symbol there
pub word_there : (words : Words) (text : List ℕ) (p n : ℕ) → p / 24 ≡ 4 * words.lead_in + p % 24 % 8 + n
    → held_symbol words text p ≡ text_symbol words text p n
unfolding held_symbol
word_there words text p n slot =
    let number : p / 24 - (4 * words.lead_in + p % 24 % 8) ≡ n = omega (arith, slot) in
    ap (λ t. if t then None else text_symbol words text p (p / 24 - first_slot words.lead_in p))
    (le-ltb (p / 24) (4 * words.lead_in + p % 24 % 8) (omega (arith, slot)))
    ∙ ap (text_symbol words text p) number

lost_by : (words : Words) (text : List ℕ) (p n : ℕ) → (n < words.count → get_or words.sources.now n 0 ≡ 255)
    → text_symbol words text p n ≡ None
lost_by words text p n lost =
    let symbol = Some (get_or text (24 * n + swapped (p % 24)) 0 % 64) in
    elim (cases_lt n words.count) [
      | inl within ↦
          ap (λ t. if t && not (get_or words.sources.now n 0 == 255) then symbol else None)
          (lt-ltb n words.count within)
          ∙ ap (λ t. if not t then symbol else None)
          (eq-eqb (get_or words.sources.now n 0) 255 (lost within))
      | inr outside ↦
          ap (λ t. if t && not (get_or words.sources.now n 0 == 255) then symbol else None)
          (le-ltb n words.count outside)
    ]

-- word n has a symbol there, but was not mended
pub none_there : (words : Words) (text : List ℕ) (p n : ℕ) → p / 24 ≡ 4 * words.lead_in + p % 24 % 8 + n
    → (n < words.count → get_or words.sources.now n 0 ≡ 255) → held_symbol words text p ≡ None
none_there words text p n slot lost = word_there words text p n slot ∙ lost_by words text p n lost

-- word n was mended
pub symbol_there : (words : Words) (text : List ℕ) (p n : ℕ) → p / 24 ≡ 4 * words.lead_in + p % 24 % 8 + n
    → n < words.count → get_or words.sources.now n 0 ≢ 255
    → held_symbol words text p ≡ Some (get_or text (24 * n + swapped (p % 24)) 0 % 64)
symbol_there words text p n slot within found =
    let symbol = Some (get_or text (24 * n + swapped (p % 24)) 0 % 64) in
    word_there words text p n slot
    ∙ ap (λ t. if t && not (get_or words.sources.now n 0 == 255) then symbol else None)
    (lt-ltb n words.count within)
    ∙ ap (λ t. if not t then symbol else None) (ne_eqb (get_or words.sources.now n 0) 255 found)

-- ---- A symbol is below 64.

small_if : (b : Bool) (symbol : Option ℕ) (n : ℕ) → symbol_or symbol n < 64
    → symbol_or (if b then None else symbol) n < 64
small_if true symbol n small = omega arith
small_if false symbol n small = small

small_then : (b : Bool) (symbol n : ℕ) → symbol < 64 → symbol_or (if b then Some symbol else None) n < 64
small_then true symbol n small = small
small_then false symbol n small = omega arith

pub held_small : (words : Words) (text : List ℕ) (p n : ℕ) → symbol_or (held_symbol words text p) n < 64
unfolding held_symbol
held_small words text p n =
    let m : ℕ = p / 24 - first_slot words.lead_in p in
    small_if (nat_lt (p / 24) (first_slot words.lead_in p)) (text_symbol words text p m) n
    (small_then (nat_lt m words.count && not (get_or words.sources.now m 0 == 255))
    (get_or text (24 * m + swapped (p % 24)) 0 % 64) n (omega arith))
