-- The table of a basis after a member is added.
use Rattle.std.proofs.Common.{◌≡◌, ℕ, zero, suc, ◌+◌, ◌-◌, ◌*◌, ◌/◌, ◌^◌, ◌<◌, Bool, true, false, List, [], ◌∷◌, ◌++◌, length, refl, sym, ap, ap₂, ◌∙◌, subst, inl, inr, ◌⊎◌, bit_xor, arith}
use Rattle.std.specs.Prelude.{slice_index, ◌==◌, if◌then◌else◌, Some, None}
use Rattle.std.specs.Int.{bit_at}
use Rattle.std.specs.Int.Bits.{xor_assoc, xor_self, xor_zero_r, xor_zero_l}
use Rattle.std.proofs.lemmas.Nat.{xor_comm}
use Rattle.std.proofs.lemmas.Nat.Bits.{bit_at_cat_low, bit_at_cat_high, bit_at_above}
use Rattle.std.proofs.lemmas.Bool.Decides.{eqb_tells}
use Rattle.bit_lists.specs.Bits.{has_bit}
use Rattle.tile_author.proofs.Span.{Spans, Free}
use Rattle.tile_author.specs.Plan.{is_combination, selection, combination, basis, differences_from_first}
use Rattle.tile_author.specs.Table.{entry}
use Rattle.tile_author.proofs.Combine.{twice}
use Rattle.tile_author.proofs.Exchange.{Spans-same, Spans-sum}
use Rattle.tile_author.proofs.BasisLaws.{spans_decides, tested, untested, spanned_test, unspanned_test, Spans-snoc, Spans-more, Spans-last, Free-snoc, spans_difference, basis-free}
use Rattle.tile_author.proofs.Works.{partial, partial-first, partial-selection, selection_in, selection_out}

selection-empty : (v : ℕ) → selection [] v ≡ 0
unfolding selection
selection-empty v = refl

pub selection-lt : (ms : List ℕ) (v : ℕ) → selection ms v < 2 ^ length ms
selection-lt [] v = omega (arith, selection-empty v)
selection-lt (m ∷ ms) v =
    let double : 2 ^ suc (length ms) ≡ 2 * 2 ^ length ms = omega arith in
    elim (spans_decides ms v) [
      | inl holds ↦ (let h = selection-lt ms v in omega (arith, selection_in m ms v holds.0))
      | inr fails ↦ (let h = selection-lt ms (bit_xor m v) in omega (arith, selection_out m ms v fails.0))
    ]

first_or_not : (b : Bool) (m : ℕ) (ms : List ℕ) (u : ℕ) → Spans ms u
    → Spans (m ∷ ms) (bit_xor (if b then m else 0) u)
unfolding Spans
first_or_not true m ms u h = inr (Spans-same ms _ _ (sym (twice m u)) h)
first_or_not false m ms u h = inl (Spans-same ms _ _ (sym (xor_zero_l u)) h)

lowest_decides : (s : ℕ)
    → ((has_bit 0 s ≡ false) × (s ≡ 2 * (s / 2))) ⊎ ((has_bit 0 s ≡ true) × (s ≡ 1 + 2 * (s / 2)))
lowest_decides s =
    elim (eqb_tells (bit_at s 0) 1) [
      | inl odd ↦ inr (odd.0, omega (arith, odd.1))
      | inr even ↦ inl (even.0, omega (arith, even.1))
    ]

-- the combination of selected members is a combination
partial-spans : (ms : List ℕ) (s : ℕ) → Spans ms (partial ms s (length ms))
unfolding Spans partial
partial-spans [] s = refl
partial-spans (m ∷ ms) s =
    let rest = partial-spans ms (s / 2) in
    Spans-same (m ∷ ms) _ _ (sym (partial-first m ms s (length ms)))
    (first_or_not (has_bit 0 s) m ms (partial ms (s / 2) (length ms)) rest)

-- a number has only one selection
pub selection-unique : (ms : List ℕ) (s v : ℕ) → Free ms → s < 2 ^ length ms → partial ms s (length ms) ≡ v
    → selection ms v ≡ s
unfolding Free
selection-unique [] s v free s_lt h = (let h0 : s ≡ 0 = omega arith in selection-empty v ∙ sym h0)
selection-unique (m ∷ ms) s v free s_lt h =
    let double : 2 ^ suc (length ms) ≡ 2 * 2 ^ length ms = omega arith in
    let u = partial ms (s / 2) (length ms) in
    let u_spans = partial-spans ms (s / 2) in
    let split = partial-first m ms s (length ms) in
    elim (lowest_decides s) [
      | inl even ↦ (
          let same : u ≡ v =
          sym (xor_zero_l u)
          ∙ ap (λ (b : Bool). bit_xor (if b then m else 0) u) (sym even.0)
          ∙ sym split
          ∙ h in
          elim (spans_decides ms v) [
            | inl holds ↦ (let half = selection-unique ms (s / 2) v free.1 (omega arith) same in
                omega (arith, selection_in m ms v holds.0, even.1))
            | inr fails ↦ absurd (fails.1 (Spans-same ms _ _ same u_spans))
          ])
      | inr odd ↦ (
          let whole : bit_xor m u ≡ v =
          ap (λ (b : Bool). bit_xor (if b then m else 0) u) (sym odd.0) ∙ sym split ∙ h in
          let rest : u ≡ bit_xor m v = sym (twice m u) ∙ ap (bit_xor m) whole in
          elim (spans_decides ms v) [
            | inl holds ↦
                absurd (free.0 (Spans-same ms _ _
                (xor_comm v (bit_xor m v) ∙ xor_assoc m v v ∙ ap (bit_xor m) (xor_self v) ∙ xor_zero_r m)
                (Spans-sum ms v (bit_xor m v) holds.1 (Spans-same ms _ _ rest u_spans))))
            | inr fails ↦ (let half = selection-unique ms (s / 2) (bit_xor m v) free.1 (omega arith) rest in
                omega (arith, selection_out m ms v fails.0, odd.1))
          ])
    ]

partial-same : (ms other : List ℕ) (s t n : ℕ) → ((j : ℕ) → j < n → has_bit j s ≡ has_bit j t)
    → ((j : ℕ) → j < n → slice_index ms j ≡ slice_index other j)
    → partial ms s n ≡ partial other t n
unfolding partial
partial-same ms other s t zero bits members = refl
partial-same ms other s t (suc n) bits members =
    ap₂ bit_xor
    (ap₂ (λ (b : Bool) (m : ℕ). if b then m else 0) (bits n (omega arith)) (members n (omega arith)))
    (partial-same ms other s t n (λ j j_lt. bits j (omega arith)) (λ j j_lt. members j (omega arith)))

at-snoc : (ms : List ℕ) (d j : ℕ) → j < length ms → slice_index (ms ++ d ∷ []) j ≡ slice_index ms j
at-snoc [] d j h = absurd (omega arith)
at-snoc (m ∷ ms) d zero h = refl
at-snoc (m ∷ ms) d (suc j) h = at-snoc ms d j (omega arith)

at-last : (ms : List ℕ) (d : ℕ) → slice_index (ms ++ d ∷ []) (length ms) ≡ d
at-last [] d = refl
at-last (m ∷ ms) d = at-last ms d

length-snoc : (ms : List ℕ) (d : ℕ) → length (ms ++ d ∷ []) ≡ suc (length ms)
length-snoc [] d = refl
length-snoc (m ∷ ms) d = ap suc (length-snoc ms d)

-- the selection of a number that is unchanged
stays : (ms : List ℕ) (d v : ℕ) → Free ms → ¬ Spans ms d → Spans ms v
    → selection (ms ++ d ∷ []) v ≡ selection ms v
unfolding partial
stays ms d v free out h =
    let s = selection ms v in
    let n = length ms in
    let s_lt = selection-lt ms v in
    let size = length-snoc ms d in
    let double : 2 ^ suc n ≡ 2 * 2 ^ n = omega arith in
    let top : has_bit n s ≡ false = ap (λ k. k == 1) (bit_at_above s n n s_lt (omega arith)) in
    selection-unique (ms ++ d ∷ []) s v (Free-snoc ms d free out)
    (subst (λ k. s < 2 ^ k) (sym size) (omega arith))
    (ap (partial (ms ++ d ∷ []) s) size
    ∙ ap₂ bit_xor (ap (λ (b : Bool). if b then slice_index (ms ++ d ∷ []) n else 0) top)
    (partial-same (ms ++ d ∷ []) ms s s n (λ j j_lt. refl) (at-snoc ms d) ∙ partial-selection ms v h)
    ∙ xor_zero_l v)

-- a selection with the new member
grows : (ms : List ℕ) (d v : ℕ) → Free ms → ¬ Spans ms d → Spans ms (bit_xor d v)
    → selection (ms ++ d ∷ []) v ≡ 2 ^ length ms + selection ms (bit_xor d v)
unfolding partial
grows ms d v free out h =
    let s = selection ms (bit_xor d v) in
    let n = length ms in
    let s_lt = selection-lt ms (bit_xor d v) in
    let size = length-snoc ms d in
    let double : 2 ^ suc n ≡ 2 * 2 ^ n = omega arith in
    let one : 1 * 2 ^ n ≡ 2 ^ n = omega arith in
    let none : n - n ≡ 0 = omega arith in
    let top : has_bit n (2 ^ n + s) ≡ true =
    ap (λ k. bit_at (k + s) n == 1) (sym one)
    ∙ ap (λ k. k == 1) (bit_at_cat_high 1 n s n s_lt (omega arith))
    ∙ ap (λ k. bit_at 1 k == 1) none in
    selection-unique (ms ++ d ∷ []) (2 ^ n + s) v (Free-snoc ms d free out)
    (subst (λ k. 2 ^ n + s < 2 ^ k) (sym size) (omega arith))
    (ap (partial (ms ++ d ∷ []) (2 ^ n + s)) size
    ∙ ap₂ bit_xor (ap₂ (λ (b : Bool) (m : ℕ). if b then m else 0) top (at-last ms d))
    (partial-same (ms ++ d ∷ []) ms (2 ^ n + s) s n
    (λ j j_lt. ap (λ k. bit_at (k + s) j == 1) (sym one) ∙ ap (λ k. k == 1) (bit_at_cat_low 1 n s j j_lt))
    (at-snoc ms d)
    ∙ partial-selection ms (bit_xor d v) h)
    ∙ twice d v)

-- the three cases of the entry of a number
pub entry-stays : (ms : List ℕ) (d v : ℕ) → Free ms → is_combination ms d ≡ false → is_combination ms v ≡ true
    → entry (ms ++ d ∷ []) v ≡ Some (selection ms v)
unfolding entry
entry-stays ms d v free out h =
    let spans = tested ms v h in
    ap₂ (λ (b : Bool) (s : ℕ). if b then Some s else None)
    (spanned_test (ms ++ d ∷ []) v (Spans-more ms d v spans)) (stays ms d v free (untested ms d out) spans)

pub entry-grows : (ms : List ℕ) (d v : ℕ) → Free ms → is_combination ms d ≡ false
    → is_combination ms v ≡ false → is_combination ms (bit_xor d v) ≡ true
    → entry (ms ++ d ∷ []) v ≡ Some (2 ^ length ms + selection ms (bit_xor d v))
unfolding entry
entry-grows ms d v free out not_yet h =
    let spans = tested ms (bit_xor d v) h in
    ap₂ (λ (b : Bool) (s : ℕ). if b then Some s else None)
    (spanned_test (ms ++ d ∷ []) v (Spans-last ms d v spans)) (grows ms d v free (untested ms d out) spans)

pub entry-none : (ms : List ℕ) (d v : ℕ) → is_combination ms v ≡ false
    → is_combination ms (bit_xor d v) ≡ false
    → entry (ms ++ d ∷ []) v ≡ None
unfolding entry
entry-none ms d v one two =
    ap (λ (b : Bool). if b then Some (selection (ms ++ d ∷ []) v) else None)
    (unspanned_test (ms ++ d ∷ []) v (λ h.
    elim (Spans-snoc ms d v h) [ inl x ↦ untested ms v one x | inr x ↦ untested ms (bit_xor d v) two x ]))

pub combination-partial : (ms : List ℕ) (s : ℕ) → combination ms s ≡ partial ms s (length ms)
unfolding combination partial
combination-partial [] s = refl
combination-partial (m ∷ ms) s =
    ap (bit_xor (if has_bit 0 s then m else 0)) (combination-partial ms (s / 2))
    ∙ sym (partial-first m ms s (length ms))

pub selection-makes : (w : List ℕ) (p : ℕ) → p < length w
    → combination (basis w) (selection (basis w) (bit_xor (slice_index w 0) (slice_index w p)))
    ≡ bit_xor (slice_index w 0) (slice_index w p)
selection-makes w p h =
    let d = bit_xor (slice_index w 0) (slice_index w p) in
    combination-partial (basis w) (selection (basis w) d)
    ∙ partial-selection (basis w) d (spans_difference w p h)

pub selection-only : (w : List ℕ) (s : ℕ) → s < 2 ^ length (basis w)
    → selection (basis w) (combination (basis w) s) ≡ s
unfolding basis Free
selection-only w s h =
    selection-unique (basis w) s (combination (basis w) s) (basis-free [] (differences_from_first w) tt) h
    (sym (combination-partial (basis w) s))
