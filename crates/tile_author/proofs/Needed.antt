-- No list of instructions is shorter than the plan.
use Rattle.std.proofs.Common.{◌≡◌, ◌≢◌, ℕ, zero, suc, ◌<◌, ◌≤◌, true, false, List, [], ◌∷◌, length, reverse, refl, sym, ap, ap₂, ◌∙◌, subst, inl, inr, ◌⊎◌, bit_xor, arith}
use Rattle.std.specs.Prelude.{slice_index, ◌==◌, ◌&&◌}
use Rattle.std.specs.List.{list_all}
use Rattle.std.specs.Int.Bits.{xor_assoc, xor_self, xor_zero_r}
use Rattle.std.proofs.lemmas.List.{length-reverse, ext_get_or}
use Rattle.std.proofs.lemmas.List.FromFn.{length-map-range_with_len}
use Rattle.std.proofs.lemmas.Bool.Decides.{eqb_tells}
use Rattle.cdg_instructions.specs.Drawing.{IsOfPlace, tile_from, tile_after, Turns}
use Rattle.cdg_instructions.specs.declared.instr.Instr.{Instr}
use Rattle.tile_author.specs.Plan.{weight, delta, are_equal, steps}
use Rattle.tile_author.proofs.Exchange.{Spans-same}
use Rattle.tile_author.proofs.Lower.{at_below, Flat, reached, All-reverse, flat_rank}

pub length-delta : (old new : List ℕ) → length (delta old new) ≡ 72
unfolding delta
length-delta old new = length-map-range_with_len (λ p. bit_xor (slice_index old p) (slice_index new p)) 0 72

pub delta_at : (old new : List ℕ) (p : ℕ) → p < 72
    → slice_index (delta old new) p ≡ bit_xor (slice_index old p) (slice_index new p)
unfolding delta
delta_at old new p h = at_below 72 p (λ q. bit_xor (slice_index old q) (slice_index new q)) 0 h

none_below : (P : ℕ → Type 0) (n : ℕ) → P zero → ((p : ℕ) → p < n → P (suc p)) → (p : ℕ) → p < suc n → P p
none_below P n first later zero h = first
none_below P n first later (suc p) h = later p (omega arith)

zero_decides : (ds : List ℕ)
    → ((list_all (λ d. d == 0) ds ≡ true) × ((p : ℕ) → p < length ds → slice_index ds p ≡ 0))
    ⊎ ((list_all (λ d. d == 0) ds ≡ false) × ((p : ℕ) × (p < length ds) × (slice_index ds p ≢ 0)))
zero_decides [] = inl (refl, λ p h. absurd (omega arith))
zero_decides (d ∷ ds) =
    elim (eqb_tells d 0) [
      | inr nonzero ↦ inr (ap (λ b. b && list_all (λ x. x == 0) ds) nonzero.0, (0, omega arith, nonzero.1))
      | inl is_zero ↦ elim (zero_decides ds) [
        | inl all ↦
            inl (
              ap₂ (λ a b. a && b) is_zero.0 all.0,
              none_below (λ p. slice_index (d ∷ ds) p ≡ 0) (length ds) is_zero.1 all.1,
            )
        | inr some ↦
            inr (ap₂ (λ a b. a && b) is_zero.0 some.0, (suc some.1.0, omega (arith, some.1.1), some.1.2))
      ]
    ]

pub sum_cancel : (a b : ℕ) → bit_xor a b ≡ 0 → a ≡ b
sum_cancel a b none =
    sym (xor_zero_r a)
    ∙ ap (bit_xor a) (sym (xor_self b))
    ∙ sym (xor_assoc a b b)
    ∙ ap (λ n. bit_xor n b) none

pub equal_decides : (old new : List ℕ) → length old ≡ 72 → length new ≡ 72
    → ((are_equal old new ≡ true) × (old ≡ new)) ⊎ ((are_equal old new ≡ false) × (old ≢ new))
unfolding are_equal
equal_decides old new old_size new_size =
    let size = length-delta old new in
    elim (zero_decides (delta old new)) [
      | inl all ↦ inl (
        all.0,
        ext_get_or 0 old new (old_size ∙ sym new_size) (λ p p_lt.
            sum_cancel (slice_index old p) (slice_index new p)
            (sym (delta_at old new p (omega arith)) ∙ all.1 p (omega arith))),
      )
      | inr some ↦ inr (
        some.0,
        λ same.
            let p = some.1.0 in
            some.1.2 (delta_at old new p (omega (arith, some.1.1))
            ∙ ap (λ (w : List ℕ). bit_xor (slice_index old p) (slice_index w p)) (sym same)
            ∙ xor_self (slice_index old p)),
      )
    ]

positive : (old new : List ℕ) (instrs : List Instr) → old ≢ new → tile_after old instrs ≡ new
    → 0 < length instrs
unfolding tile_from
positive old new [] differ result = absurd (differ result)
positive old new (i ∷ instrs) differ result = omega arith

pub steps_needed : (row column : ℕ) (old new : List ℕ) → length old ≡ 72 → length new ≡ 72
    → (instrs : List Instr) → Turns row column old new instrs
    → steps old new ≤ length instrs
unfolding steps weight Flat
steps_needed row column old new old_size new_size instrs h =
    elim (equal_decides old new old_size new_size) [
      | inl same ↦ rw same.0 (omega arith)
      | inr differ ↦ rw differ.0 (
          let e =
          reached row column old (reverse instrs) (All-reverse (IsOfPlace row column) instrs h.of_place) in
          let same_length = length-reverse instrs in
          let some = positive old new instrs differ.1 h.result in
          elim e.flat [
            | inl drawn ↦ (
                let rank =
                flat_rank e.gs e.base new new_size
                (subst (λ (w : List ℕ). Flat e.gs e.base (λ p. slice_index w p)) h.result drawn.1) in
                omega (arith, e.few))
            | inr combined ↦ (
                let rank = flat_rank e.gs e.base (delta old new) (length-delta old new) (λ p p_lt.
                Spans-same e.gs _ _
                (ap (λ (w : List ℕ). bit_xor e.base (bit_xor (slice_index old p) (slice_index w p))) h.result
                ∙ ap (bit_xor e.base) (sym (delta_at old new p p_lt)))
                (combined p p_lt)) in
                omega (arith, e.few))
          ])
    ]
