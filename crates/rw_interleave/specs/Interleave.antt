-- The places of the symbols of each pack among the program symbols.
use Rattle.std.specs.Prelude.{◌≡◌, ◌≢◌, ℕ, ◌+◌, ◌-◌, ◌*◌, ◌%◌, ◌<◌, List, [], length, map, All, slice_index, slice_index_or, ◌==◌, if◌then◌else◌}
use Rattle.bit_lists.specs.Counting.{below}
use Rattle.raw_subcode.specs.Sizes.{block_bytes, slots_a_block, symbols_a_slot}
use Rattle.rw_code.specs.Sizes.{word_symbols}
use Rattle.rw_code.specs.Codeword.{IsCodeword}

-- the number of slots over which the symbols of a pack are spread (IEC 60908)
abbrev pub span : ℕ
span = 8

-- the delay of a pack in slots: its last symbol is seven slots after its first symbol
abbrev pub packs_kept_back : ℕ
packs_kept_back = 7

-- the number i, except that a and b are exchanged: b for a, and a for b
abbrev pub exchanged : ℕ → ℕ → ℕ → ℕ
exchanged a b i = if i == a then b else (if i == b then a else i)

-- the position within a slot at which symbol i of a pack is written
unfoldable pub swapped : ℕ → ℕ
swapped i = exchanged 1 18 (exchanged 2 5 (exchanged 3 23 i))

-- the place of symbol i of pack n in the list of program symbols. This list consists of slots of 24 symbols. Pack n begins
-- in slot n and ends in slot n + 7.
abbrev pub place : ℕ → ℕ → ℕ
place n i = symbols_a_slot * (n + swapped i % span) + swapped i

-- word n of the program symbols: the symbols at the 24 places of pack n
unfoldable pub word_of : List ℕ → ℕ → List ℕ
word_of symbols n = map (λ i. slice_index symbols (place n i)) (below word_symbols)

-- the number of packs that are complete in the first `slots` slots
abbrev pub whole_of_slots : ℕ → ℕ
whole_of_slots slots = slots - packs_kept_back

-- the number of packs whose 24 symbols are all in the first `blocks` blocks
abbrev pub whole_packs : ℕ → ℕ
whole_packs blocks = slots_a_block * blocks - packs_kept_back

-- The program symbols of `blocks` blocks contain exactly these packs; all other symbols are zeros.
pub record Carries (blocks : ℕ) (symbols : List ℕ) (packs : List (List ℕ)) : Type 0 where
  pub size : length symbols ≡ block_bytes * blocks
  pub count : length packs ≡ whole_packs blocks
  pub codewords : All IsCodeword packs
  pub words : (n : ℕ) → n < whole_packs blocks → word_of symbols n ≡ slice_index_or packs n []
  pub others : (p : ℕ) → p < block_bytes * blocks
      → ((n i : ℕ) → n < whole_packs blocks → i < word_symbols → place n i ≢ p) → slice_index symbols p ≡ 0
