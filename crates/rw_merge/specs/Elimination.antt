-- The sums of errors, and how the share of one position is removed from them.
use Rattle.std.specs.Prelude.{◌≡◌, ℕ, ◌<◌, List, [], ◌∷◌, length, slice_index, bit_xor}
use Rattle.gf64.specs.Field.{product, alpha_power}
use Rattle.rw_code.specs.Codeword.{IsWord, weighted_sum}
use Rattle.rw_merge.specs.declared.elimination.WordSums.{WordSums}
use Rattle.rw_merge.specs.Places.{IsOutside}
use Rattle.raw_subcode.specs.Sizes.{symbols_a_slot}

-- The first n of these sums, at most four, are those of the word over all its symbols.
pub record AreFirstSums (n : ℕ) (word : List ℕ) (sums : WordSums) : Type 0 where
  pub zeroth : 0 < n → sums.zeroth ≡ weighted_sum 0 word
  pub first : 1 < n → sums.first ≡ weighted_sum 1 word
  pub second : 2 < n → sums.second ≡ weighted_sum 2 word
  pub third : 3 < n → sums.third ≡ weighted_sum 3 word

-- each symbol times the sum of its position's power and this one, so that the symbol at the position with this power
-- becomes 0
unfoldable pub cleared : ℕ → List ℕ → List ℕ
cleared power [] = []
cleared power (symbol ∷ rest) =
    product (bit_xor (alpha_power (length rest)) power) symbol ∷ cleared power rest

-- The errors are a word with these four sums. Its symbols outside of these positions are 0.
pub record ArePlacedErrors (sums : WordSums) (places errors : List ℕ) : Type 0 where
  pub is_word : IsWord errors
  pub have_sums : AreFirstSums 4 errors sums
  pub outside : (i : ℕ) → i < symbols_a_slot → IsOutside i places → slice_index errors i ≡ 0
