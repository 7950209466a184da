-- The packs of a stream determine the symbols that carry them.
use Rattle.std.proofs.Common.{◌≡◌, ◌≢◌, ◌⊎◌, ℕ, ◌+◌, ◌-◌, ◌*◌, ◌/◌, ◌%◌, ◌<◌, List, get_or, ap, sym, ◌∙◌, inl, inr, arith}
use Rattle.std.proofs.lemmas.Bool.{cases_lt}
use Rattle.std.proofs.lemmas.Grind.{same_number_lists}
use Rattle.std.proofs.lemmas.List.FromFn.{get_or-map-range_with_len}
use Rattle.rw_interleave.specs.Interleave.{swapped, place, word_of, whole_packs, Carries}
use Rattle.rw_interleave.proofs.Places.{swapped-lt}

swapped_back : (i : ℕ) → i < 24 → swapped (swapped i) ≡ i
unfolding swapped
swapped_back i lt = grind arith

-- symbol i of pack n
pub symbol_of_pack : (symbols : List ℕ) (n i : ℕ) → i < 24
    → get_or (word_of symbols n) i 0 ≡ get_or symbols (place n i) 0
unfolding word_of
symbol_of_pack symbols n i lt =
    get_or-map-range_with_len (λ j. get_or symbols (place n j) 0) 0 24 i i 0 lt (omega arith)

place_of : (n q : ℕ) → q < 24 → place n (swapped q) ≡ 24 * (n + q % 8) + q
place_of n q lt = ap (λ s. 24 * (n + s % 8) + s) (swapped_back q lt)

-- the number of the pack that has a symbol at this place
no_pack : (n i p : ℕ) → i < 24 → place n i ≡ p → p / 24 ≡ n + p % 24 % 8
no_pack n i p lt here =
    let small : swapped i < 24 = swapped-lt i lt in
    let position : p % 24 ≡ swapped i = omega (arith, here, small) in
    omega (arith, here, small, position)

-- each place is the place of a symbol of a whole pack, or of no such symbol
pub in_pack : (p whole : ℕ)
    → ((n : ℕ) × (i : ℕ) × (n < whole) × (i < 24) × (place n i ≡ p))
    ⊎ ((n i : ℕ) → n < whole → i < 24 → place n i ≢ p)
in_pack p whole =
    let q : ℕ = p % 24 in
    let small : q < 24 = omega arith in
    elim (cases_lt (p / 24) (q % 8)) [
      | inl early ↦ inr (λ n i n_lt i_lt here. absurd (omega (arith, no_pack n i p i_lt here, early)))
      | inr from ↦ elim (cases_lt (p / 24 - q % 8) whole) [
        | inl inside ↦
            inl (
              p / 24 - q % 8,
              swapped q,
              inside,
              swapped-lt q small,
              place_of (p / 24 - q % 8) q small ∙ omega (arith, from),
            )
        | inr late ↦
            inr (λ n i n_lt i_lt here. absurd (omega (arith, no_pack n i p i_lt here, from, late, n_lt)))
      ]
    ]

pub same_symbols : (blocks : ℕ) (one other : List ℕ) (packs : List (List ℕ)) → Carries blocks one packs
    → Carries blocks other packs
    → one ≡ other
same_symbols blocks one other packs a b =
    same_number_lists one other (a.size ∙ sym b.size) (λ p lt. elim (in_pack p (whole_packs blocks)) [
      | inl (n, i, n_lt, i_lt, here) ↦
          ap (λ k. get_or one k 0) (sym here)
          ∙ sym (symbol_of_pack one n i i_lt)
          ∙ ap (λ (w : List ℕ). get_or w i 0) (a.words n n_lt ∙ sym (b.words n n_lt))
          ∙ symbol_of_pack other n i i_lt ∙ ap (λ k. get_or other k 0) here
      | inr none ↦
          let inside : p < 96 * blocks = omega (arith, lt, a.size) in
          a.others p inside none ∙ sym (b.others p inside none)
    ])
