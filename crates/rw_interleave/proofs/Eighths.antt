-- Lists of 24 symbols that are filled with every eighth position at a time.
use Rattle.std.proofs.Common.{◌≡◌, ◌≢◌, ℕ, ◌+◌, ◌%◌, ◌<◌, List, length, map, set, get_or, inl, inr, refl, sym, ap, ◌∙◌, subst, arith, length-set}
use Rattle.std.proofs.lemmas.Bool.{cases_eq}
use Rattle.std.proofs.lemmas.Grind.{same_number_lists}
use Rattle.std.proofs.lemmas.List.{get_or-set_same, get_or-set_other, get_or-map, length-map}
use Rattle.std.proofs.lemmas.List.FromFn.{get_or-map-range_with_len, length-map-range_with_len}
use Rattle.std.specs.List.{range_with_len}
use Rattle.rw_interleave.specs.Interleave.{swapped}
use Rattle.rw_interleave.proofs.Places.{swapped-lt}

-- an exchange of places below 24: made twice, it changes nothing
pub record IsExchange (at : ℕ → ℕ) : Type 0 where
  pub within : (p : ℕ) → p < 24 → at p < 24
  pub twice : (p : ℕ) → p < 24 → at (at p) ≡ p

pub no_exchange : IsExchange (λ p. p)
no_exchange = record {
  within = λ p lt. lt;
  twice = λ p lt. refl;
}

pub swapped_back : (i : ℕ) → i < 24 → swapped (swapped i) ≡ i
unfolding swapped
swapped_back i lt = grind arith

pub swapped_exchange : IsExchange swapped
swapped_exchange = record {
  within = swapped-lt;
  twice = swapped_back;
}

apart : (at : ℕ → ℕ) (p q : ℕ) → IsExchange at → p < 24 → q < 24 → p ≢ q → at p ≢ at q
apart at p q exchange lp lq other same = other (sym (exchange.twice p lp) ∙ ap at same ∙ exchange.twice q lq)

-- the symbols whose positions have a remainder below k (modulo 8) are at their places
abbrev pub HasEighths : (ℕ → ℕ) → (ℕ → ℕ) → List ℕ → ℕ → Type 0
HasEighths at f bytes k = (p : ℕ) → p < 24 → p % 8 < k → get_or bytes (at p) 0 % 64 ≡ f p

-- a symbol that is put is there, and the others are unchanged
put_here : (at : ℕ → ℕ) (bytes : List ℕ) (p x : ℕ) → IsExchange at → p < 24 → length bytes ≡ 24
    → get_or (set bytes (at p) x) (at p) 0 ≡ x
put_here at bytes p x exchange lt size =
    get_or-set_same bytes (at p) x 0 (subst (λ n. at p < n) (sym size) (exchange.within p lt))

put_other : (at : ℕ → ℕ) (bytes : List ℕ) (p q x : ℕ) → IsExchange at → p < 24 → q < 24 → p ≢ q
    → get_or (set bytes (at q) x) (at p) 0 ≡ get_or bytes (at p) 0
put_other at bytes p q x exchange lp lq other =
    get_or-set_other bytes (at q) (at p) x 0 (apart at p q exchange lp lq other)

-- three more symbols are put
pub eighth_more : (at f value : ℕ → ℕ) (old one two three : List ℕ) (k : ℕ) → IsExchange at → k < 8
    → length old ≡ 24 → HasEighths at f old k
    → ((p : ℕ) → p < 24 → p % 8 ≡ k → value p % 64 ≡ f p)
    → one ≡ set old (at k) (value k) → two ≡ set one (at (k + 8)) (value (k + 8))
    → three ≡ set two (at (k + 16)) (value (k + 16))
    → HasEighths at f three (k + 1)
eighth_more at f value old one two three k exchange lt size before now one_is two_is three_is p lp least =
    let one_size : length one ≡ 24 = grind (arith, one_is, length-set) in
    let two_size : length two ≡ 24 = grind (arith, two_is, length-set) in
    elim (cases_eq p (k + 16)) [
      | inl last ↦
          let here : get_or three (at p) 0 ≡ value p =
          ap (λ l. get_or l (at p) 0) three_is
          ∙ ap (λ q. get_or (set two (at q) (value q)) (at p) 0) (sym last)
          ∙ put_here at two p (value p) exchange lp two_size in
          ap (λ n. n % 64) here ∙ now p lp (omega (arith, last))
      | inr not_last ↦
          let third : get_or three (at p) 0 ≡ get_or two (at p) 0 =
          ap (λ l. get_or l (at p) 0) three_is
          ∙ put_other at two p (k + 16) (value (k + 16)) exchange lp (omega arith) not_last in
          elim (cases_eq p (k + 8)) [
            | inl middle ↦
                let here : get_or two (at p) 0 ≡ value p =
                ap (λ l. get_or l (at p) 0) two_is
                ∙ ap (λ q. get_or (set one (at q) (value q)) (at p) 0) (sym middle)
                ∙ put_here at one p (value p) exchange lp one_size in
                ap (λ n. n % 64) (third ∙ here) ∙ now p lp (omega (arith, middle))
            | inr not_middle ↦
                let second : get_or two (at p) 0 ≡ get_or one (at p) 0 =
                ap (λ l. get_or l (at p) 0) two_is
                ∙ put_other at one p (k + 8) (value (k + 8)) exchange lp (omega arith) not_middle in
                elim (cases_eq p k) [
                  | inl first ↦
                      let here : get_or one (at p) 0 ≡ value p =
                      ap (λ l. get_or l (at p) 0) one_is
                      ∙ ap (λ q. get_or (set old (at q) (value q)) (at p) 0) (sym first)
                      ∙ put_here at old p (value p) exchange lp size in
                      ap (λ n. n % 64) (third ∙ second ∙ here) ∙ now p lp (omega (arith, first))
                  | inr not_first ↦
                      let stays : get_or one (at p) 0 ≡ get_or old (at p) 0 =
                      ap (λ l. get_or l (at p) 0) one_is
                      ∙ put_other at old p k (value k) exchange lp (omega arith) not_first in
                      ap (λ n. n % 64) (third ∙ second ∙ stays)
                      ∙ before p lp (omega (arith, least, not_last, not_middle, not_first))
                ]
          ]
    ]

-- all symbols are at their places
pub eighths_all : (at f : ℕ → ℕ) (bytes : List ℕ) → IsExchange at → length bytes ≡ 24
    → HasEighths at f bytes 8
    → map (λ (b : ℕ). b % 64) bytes ≡ map (λ i. f (at i)) (range_with_len 0 24)
eighths_all at f bytes exchange size done =
    same_number_lists _ _
    (length-map bytes (λ (b : ℕ). b % 64) ∙ size ∙ sym (length-map-range_with_len (λ i. f (at i)) 0 24))
    (λ i lt.
    let within : i < 24 = omega (arith, lt, size, length-map bytes (λ (b : ℕ). b % 64)) in
    get_or-map (λ (b : ℕ). b % 64) bytes i 0 0 (omega (arith, within, size))
    ∙ ap (λ q. get_or bytes q 0 % 64) (sym (exchange.twice i within))
    ∙ done (at i) (exchange.within i within) (omega arith)
    ∙ sym (get_or-map-range_with_len (λ j. f (at j)) 0 24 i i 0 within (omega arith)))
