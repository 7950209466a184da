-- The positions at which the first of two readings may be wrong.
use Rattle.std.proofs.Common.{◌≡◌, ◌≢◌, ◌⊎◌, ℕ, ◌+◌, ◌-◌, ◌<◌, ◌≤◌, List, [], ◌∷◌, get_or, sym, ap, ◌∙◌, subst, MatchOption, Some, None, inl, inr, arith}
use Rattle.std.proofs.lemmas.Bool.{cases_eq, cases_lt}
use Rattle.std.specs.declared.option.Option.{Option}
use Rattle.gf64.specs.Field.{product, alpha_power}
use Rattle.rw_code.specs.Codeword.{IsWord, differences, weighted_sum}
use Rattle.rw_merge.specs.Agreement.{IsAgreed}
use Rattle.rw_merge.specs.Elimination.{ArePlacedErrors, AreFirstSums, cleared}
use Rattle.rw_merge.specs.Places.{AreApart, AreEqualFrom, AreEqualOutside, IsNextDifference, IsOutside, all_of}
use Rattle.rw_merge.specs.declared.elimination.WordSums.{WordSums}
use Rattle.rw_merge.specs.declared.places.WrongPlaces.{WrongPlaces}
use Rattle.rw_merge.proofs.Readings.{right_where_equal, right_but_at_one}
use Rattle.rw_merge.proofs.Solving.{gaps, errors_of, equal_from_errors}
use Rattle.rw_merge.proofs.Sums.{further_sums, nothing_further, nothing_left}

-- ---- Readings that differ at some positions, one after another.

abbrev pub EqualFrom : ℕ → List ℕ → List ℕ → List ℕ → Type 0
EqualFrom from places xs ys = (k : ℕ) → from ≤ k → k < 24 → IsOutside k places → get_or xs k 0 ≡ get_or ys k 0

pub from_last : (from : ℕ) (xs ys : List ℕ) → AreEqualFrom from xs ys → EqualFrom from [] xs ys
from_last from xs ys last k le lt out = last.equal k le lt

pub from_next : (from i : ℕ) (places xs ys : List ℕ) → IsNextDifference from xs ys i
    → EqualFrom (i + 1) places xs ys
    → EqualFrom from (i ∷ places) xs ys
from_next from i places xs ys next rest k le lt out =
    elim (cases_lt k i) [
      | inl before ↦ next.equal k le before
      | inr after ↦ rest k (let ne = out.0 in omega arith) lt out.1
    ]

-- ---- Codewords that are agreed.

-- if the readings differ in at least three positions, all equal symbols are right
pub agreed_many : (places xs ys ws : List ℕ) → IsWord xs → IsWord ys → 3 ≤ differences xs ys
    → AreEqualOutside places xs ys → IsAgreed xs ys ws
    → AreEqualOutside places xs ws
agreed_many places xs ys ws x_word y_word many equal agreed i lt out =
    right_where_equal xs ys ws i (x_word.size ∙ sym y_word.size)
    (x_word.size ∙ sym agreed.is_codeword.is_word.size) (omega (arith, many, agreed.few))
    (omega (arith, x_word.size)) (equal i lt out)

-- otherwise they are right except at one position
pub agreed_few : (p q : ℕ) (xs ys ws : List ℕ) → IsWord xs → IsWord ys → 0 < differences xs ys
    → ((i : ℕ) → i < 24 → i ≢ p → i ≢ q → get_or xs i 0 ≡ get_or ys i 0) → IsAgreed xs ys ws
    → (f : ℕ) × AreEqualOutside (p ∷ q ∷ f ∷ []) xs ws
agreed_few p q xs ys ws x_word y_word some equal agreed =
    let (f, right) =
    right_but_at_one xs ys ws (x_word.size ∙ sym y_word.size)
    (x_word.size ∙ sym agreed.is_codeword.is_word.size) (omega (arith, some, agreed.few)) in
    (f, λ i lt out. right i (omega (arith, x_word.size)) out.1.1.0 (equal i lt out.0 out.1.0))

-- ---- Errors at two positions and at most one further.

-- the first two sums after the shares of two positions are removed
pub record AreLeft (es : List ℕ) (a b t0 t1 : ℕ) : Type 0 where
  pub zeroth : t0 ≡ weighted_sum 0 (cleared (alpha_power (23 - b)) (cleared (alpha_power (23 - a)) es))
  pub first : t1 ≡ weighted_sum 1 (cleared (alpha_power (23 - b)) (cleared (alpha_power (23 - a)) es))

abbrev IsNew : ℕ → ℕ → ℕ → Type 0
IsNew a b f = (f < 24) × (f ≢ a) × (f ≢ b)

new_or_not : (a b f : ℕ) → IsNew a b f ⊎ ((k : ℕ) → k < 24 → k ≢ a → k ≢ b → k ≢ f)
new_or_not a b f =
    elim (cases_lt f 24) [
      | inr past ↦ inr (λ k lt not_a not_b same. absurd (omega arith))
      | inl within ↦
          elim (cases_eq f a) [
            | inl same_a ↦ inr (λ k lt not_a not_b same. not_a (same ∙ same_a))
            | inr not_a ↦
                elim (cases_eq f b) [
                  | inl same_b ↦ inr (λ k lt other_a other_b same. other_b (same ∙ same_b))
                  | inr not_b ↦ inl (within, not_a, not_b)
                ]
          ]
    ]

-- if the remaining sums are 0, there is no error at the further position
pub no_further : (sums : WordSums) (a b f t0 t1 : ℕ) (es : List ℕ) → a < 24 → b < 24
    → ArePlacedErrors sums (a ∷ b ∷ f ∷ []) es → AreLeft es a b t0 t1 → t0 ≡ 0
    → (k : ℕ) → k < 24 → k ≢ a → k ≢ b → get_or es k 0 ≡ 0
no_further sums a b f t0 t1 es a_lt b_lt are left none k lt not_a not_b =
    elim (cases_eq k f) [
      | inr other ↦ are.outside k lt (not_a, (not_b, (other, tt)))
      | inl here ↦
          elim (new_or_not a b f) [
            | inr old ↦ absurd (old k lt not_a not_b here)
            | inl new ↦
                ap (λ n. get_or es n 0) here
                ∙ nothing_further es a b f t0 t1 are.is_word a_lt b_lt new.0 new.1 new.2
                (λ i i_lt p q r. are.outside i i_lt (p, (q, (r, tt)))) left.zeroth left.first none
          ]
    ]

-- otherwise its power times the first remaining sum is the second
pub some_further : (sums : WordSums) (a b f t0 t1 : ℕ) (es : List ℕ) → a < 24
    → ArePlacedErrors sums (a ∷ b ∷ f ∷ []) es → AreLeft es a b t0 t1 → t0 ≢ 0
    → (f < 24) × (f ≢ a) × (f ≢ b) × (product (alpha_power (23 - f)) t0 ≡ t1)
some_further sums a b f t0 t1 es a_lt are left some =
    elim (new_or_not a b f) [
      | inl new ↦ (
        new.0,
        new.1,
        new.2,
        (further_sums es a b f t0 t1 are.is_word new.0 (λ i i_lt p q r. are.outside i i_lt (p, (q, (r, tt))))
            left.zeroth left.first).1,
      )
      | inr old ↦
          absurd (some (nothing_left es a b t0 are.is_word a_lt
          (λ k lt not_a not_b. are.outside k lt (not_a, (not_b, (old k lt not_a not_b, tt)))) left.zeroth))
    ]

-- ---- The results at one or two positions.

pub few_places : (sums : WordSums) (p q : ℕ) (found : Option WrongPlaces) (xs ys : List ℕ) → IsWord xs
    → IsWord ys → AreFirstSums 4 xs sums → 0 < differences xs ys
    → ((i : ℕ) → i < 24 → i ≢ p → i ≢ q → get_or xs i 0 ≡ get_or ys i 0)
    → MatchOption found ((f : ℕ) (es : List ℕ) → ¬ ArePlacedErrors sums (p ∷ q ∷ f ∷ []) es)
    (λ places. AreApart places
    × ((f : ℕ) (es : List ℕ) → ArePlacedErrors sums (p ∷ q ∷ f ∷ []) es
    → ArePlacedErrors sums (all_of places) es))
    → MatchOption found ((w : List ℕ) → ¬ IsAgreed xs ys w)
    (λ places. AreApart places × ((w : List ℕ) → IsAgreed xs ys w → AreEqualOutside (all_of places) xs w))
few_places sums p q None xs ys x_word y_word are some equal found = λ w agreed.
    let (f, right) = agreed_few p q xs ys w x_word y_word some equal agreed in
    found f (gaps xs w) (errors_of sums (p ∷ q ∷ f ∷ []) xs w x_word agreed.is_codeword are right)
few_places sums p q (Some places) xs ys x_word y_word are some equal found = (
  found.0,
  λ w agreed.
      let (f, right) = agreed_few p q xs ys w x_word y_word some equal agreed in
      equal_from_errors sums (all_of places) xs w x_word agreed.is_codeword.is_word
      (found.1 f (gaps xs w) (errors_of sums (p ∷ q ∷ f ∷ []) xs w x_word agreed.is_codeword are right)),
)

-- ---- The lists in the code are the readings.

pub moved : (P : List ℕ → List ℕ → Type 0) (one other xs ys : List ℕ) → one ≡ xs → other ≡ ys → P one other
    → P xs ys
moved P one other xs ys x_is y_is p = subst (λ l. P l ys) x_is (subst (λ l. P one l) y_is p)
