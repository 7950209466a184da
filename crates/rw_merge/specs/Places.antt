-- Positions of a word: where two readings differ, and outside of which words are equal.
use Rattle.std.specs.Prelude.{◌≡◌, ◌≢◌, ℕ, suc, ◌+◌, ◌<◌, ◌≤◌, ⊤, List, [], ◌∷◌, drop, slice_index}
use Rattle.rw_code.specs.Codeword.{differences}
use Rattle.rw_merge.specs.declared.places.WrongPlaces.{WrongPlaces}
use Rattle.raw_subcode.specs.Sizes.{symbols_a_slot}

-- From this position on the words are equal.
pub record AreEqualFrom (from : ℕ) (xs ys : List ℕ) : Type 0 where
  pub equal : (k : ℕ) → from ≤ k → k < symbols_a_slot → slice_index xs k ≡ slice_index ys k
  pub none : differences (drop from xs) (drop from ys) ≡ 0

-- Position i is the first from here on at which the words differ.
pub record IsNextDifference (from : ℕ) (xs ys : List ℕ) (i : ℕ) : Type 0 where
  pub later : from ≤ i
  pub within : i < symbols_a_slot
  pub differ : slice_index xs i ≢ slice_index ys i
  pub equal : (k : ℕ) → from ≤ k → k < i → slice_index xs k ≡ slice_index ys k
  pub count : differences (drop from xs) (drop from ys)
      ≡ suc (differences (drop (i + 1) xs) (drop (i + 1) ys))

-- the position is none of these
abbrev pub IsOutside : ℕ → List ℕ → Type 0
IsOutside i [] = ⊤
IsOutside i (place ∷ places) = (i ≢ place) × IsOutside i places

-- the words are equal outside of these positions
abbrev pub AreEqualOutside : List ℕ → List ℕ → List ℕ → Type 0
AreEqualOutside places xs ys = (i : ℕ) → i < symbols_a_slot → IsOutside i places
    → slice_index xs i ≡ slice_index ys i

-- the four positions
abbrev pub all_of : WrongPlaces → List ℕ
all_of p = p.first ∷ p.second ∷ p.third ∷ p.fourth ∷ []

-- Four positions of a word, all different.
pub record AreApart (p : WrongPlaces) : Type 0 where
  pub first : p.first < symbols_a_slot
  pub second : (p.second < symbols_a_slot) × (p.second ≢ p.first)
  pub third : (p.third < symbols_a_slot) × (p.third ≢ p.first) × (p.third ≢ p.second)
  pub fourth : (p.fourth < symbols_a_slot) × (p.fourth ≢ p.first) × (p.fourth ≢ p.second)
      × (p.fourth ≢ p.third)
