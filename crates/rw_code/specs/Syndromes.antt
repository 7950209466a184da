-- The sums of a word as the code stores them, and the steps that find wrong symbols.
use Rattle.std.specs.Prelude.{◌≡◌, ◌≢◌, ℕ, ◌+◌, ◌-◌, ◌*◌, ◌/◌, ◌%◌, ◌^◌, ◌<◌, ◌≤◌, List, [], ◌∷◌, ◌++◌, take, bit_xor}
use Rattle.gf64.specs.Field.{product, alpha_power}
use Rattle.rw_code.specs.declared.pack.LastFour.{LastFour}
use Rattle.rw_code.specs.declared.syndromes.Sums.{Sums}
use Rattle.rw_code.specs.declared.correction.Locator.{Locator}
use Rattle.rw_code.specs.declared.correction.Places.{Places}
use Rattle.rw_code.specs.declared.correction.TwoErrors.{TwoErrors}
use Rattle.rw_code.specs.Sizes.{word_symbols, last_position, symbol_values}
use Rattle.rw_code.specs.Codeword.{weighted_sum}

-- lane j of a number: six bits of it
unfoldable pub lane : ℕ → ℕ → ℕ
lane j lanes = lanes / 2 ^ (6 * j) % 2 ^ 6

-- Lanes 0 to 3 are the sums of the word over all symbols, lanes 4 and 5 those over the first four.
pub record AreSyndromes (word : List ℕ) (lanes : ℕ) : Type 0 where
  pub whole : (j : ℕ) → j < 4 → lane j lanes ≡ weighted_sum j word
  pub first_four : (j : ℕ) → j < 2 → lane (4 + j) lanes ≡ weighted_sum j (take 4 word)
  pub bound : lanes < 2 ^ 36

-- The lanes are what a symbol at a position adds to the six sums.
pub record IsEntry (position symbol lanes : ℕ) : Type 0 where
  pub whole : (j : ℕ) → j < 4 → lane j lanes ≡ product (alpha_power (j * (last_position - position))) symbol
  pub first_four : (j : ℕ) → j < 2 → position < 4
      → lane (4 + j) lanes ≡ product (alpha_power (j * (3 - position))) symbol
  pub later : (j : ℕ) → j < 2 → 4 ≤ position → lane (4 + j) lanes ≡ 0
  pub bound : lanes < 2 ^ 36

-- If some symbols and the old parity symbols have sums 0 to n - 1 of 0, so have these symbols, `symbol` and the new ones.
abbrev pub ContinuesTo : ℕ → List ℕ → ℕ → List ℕ → Type 0
ContinuesTo n old symbol new =
    (j : ℕ) → j < n → (xs : List ℕ) → weighted_sum j (xs ++ old) ≡ 0 → weighted_sum j (xs ++ symbol ∷ new) ≡ 0

-- the value of a polynomial at power j of alpha, which is what it adds to sum j as the last four symbols of a word
abbrev pub value_at : ℕ → LastFour → ℕ
value_at j last = weighted_sum j (last.cubic ∷ last.square ∷ last.linear ∷ last.constant ∷ [])

-- The four sums over all symbols are lanes 0 to 3.
pub record AreLanes (lanes : ℕ) (sums : Sums) : Type 0 where
  pub zeroth : sums.zeroth ≡ lane 0 lanes
  pub first : sums.first ≡ lane 1 lanes
  pub second : sums.second ≡ lane 2 lanes
  pub third : sums.third ≡ lane 3 lanes

-- ---- Wrong symbols. An error is the sum of a wrong symbol and the right one.

-- The number is an error at this position: it is not 0.
pub record IsError (position error : ℕ) : Type 0 where
  pub place : position < word_symbols
  pub below : error < symbol_values
  pub wrong : error ≢ 0

-- The lanes are those of a word with this error only.
pub record IsOneWrong (lanes position error : ℕ) : Type 0 where
  pub is_error : IsError position error
  pub entry : IsEntry position error lanes

-- The lanes are those of a word with two errors, e at position i and f at a later position j.
pub record AreTwoWrong (lanes i e j f : ℕ) : Type 0 where
  pub apart : i < j
  pub first : IsError i e
  pub second : IsError j f
  pub sum : (p q : ℕ) → IsEntry i e p → IsEntry j f q → lanes ≡ bit_xor p q

-- The lanes are those of a word with these two errors.
abbrev pub AreErrors : ℕ → TwoErrors → Type 0
AreErrors lanes errors =
    AreTwoWrong lanes errors.first.position errors.first.value errors.second.position errors.second.value

-- Sums 0 and 1 are those of a word with two errors, e and f, at these positions.
pub record AreTwoSums (sums : Sums) (places : Places) (e f : ℕ) : Type 0 where
  pub first_error : IsError places.first e
  pub second_error : IsError places.second f
  pub zeroth : sums.zeroth ≡ bit_xor e f
  pub first : sums.first ≡ bit_xor (product (alpha_power (last_position - places.first)) e)
      (product (alpha_power (last_position - places.second)) f)

-- The polynomial has these coefficients. If two symbols are wrong, it is 0 at the powers of alpha of both positions.
pub record IsLocator (sums : Sums) (locator : Locator) : Type 0 where
  pub square : locator.square ≡ bit_xor (product sums.first sums.first) (product sums.zeroth sums.second)
  pub linear : locator.linear ≡ bit_xor (product sums.first sums.second) (product sums.zeroth sums.third)
  pub constant : locator.constant ≡ bit_xor (product sums.second sums.second) (product sums.first sums.third)

-- The polynomial is (x + p)(x + q) times a factor other than 0, where p and q are the powers of two positions.
pub record IsLocatorOf (locator : Locator) (i j : ℕ) : Type 0 where
  pub square : locator.square ≢ 0
  pub below : locator.square < symbol_values
  pub linear : locator.linear
      ≡ product (bit_xor (alpha_power (last_position - i)) (alpha_power (last_position - j))) locator.square
  pub constant : locator.constant
      ≡ product (product (alpha_power (last_position - i)) (alpha_power (last_position - j))) locator.square

-- alpha^d + 1 is alpha^z.
pub record IsPair (d z : ℕ) : Type 0 where
  pub apart : 0 < d
  pub within : d < word_symbols
  pub bound : z < 63
  pub sum : bit_xor (alpha_power d) 1 ≡ alpha_power z
