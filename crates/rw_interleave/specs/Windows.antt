-- The last seven slots of a stream of blocks, and the block after them, as bytes in a row. Code calls the sizes by the
-- names of src/gather.rt.
use Rattle.std.specs.Prelude.{◌≡◌, ℕ, ◌+◌, ◌*◌, ◌%◌, ◌<◌, ◌≤◌, Bool, true, List, ◌++◌, length, map, slice_index}
use Rattle.std.specs.List.{range_with_len}
use Rattle.bit_lists.specs.Counting.{below}
use Rattle.cdg_io.specs.Run.{run_gives, run_state}
use Rattle.raw_subcode.specs.Sizes.{slots_a_block, symbols_a_slot}
use Rattle.rw_code.specs.Sizes.{symbol_values}
use Rattle.rw_interleave.specs.Gathering.{gather_gives, gather_next}
use Rattle.rw_interleave.specs.Interleave.{packs_kept_back}

-- the number of bytes in the last seven slots
abbrev pub before_bytes : ℕ
before_bytes = 168

-- the number of bytes in the first three of these slots
abbrev pub early_bytes : ℕ
early_bytes = 72

-- the number of bytes in a row: the seven slots and the block after them
abbrev pub row_bytes : ℕ
row_bytes = 264

-- slot k of some bytes: the low six bits of each
unfoldable pub slot_in : List ℕ → ℕ → List ℕ
slot_in bytes k = map (λ i. slice_index bytes (symbols_a_slot * k + i) % 64) (below symbols_a_slot)

-- `count` slots of some bytes, from slot `first` on
unfoldable pub slots_in : List ℕ → ℕ → ℕ → List (List ℕ)
slots_in bytes first count = map (slot_in bytes) (range_with_len first count)

-- the last slots after the four slots of a block
abbrev pub slots_after_block : List (List ℕ) → List ℕ → List (List ℕ)
slots_after_block slots block = run_state gather_next slots (slots_in block 0 slots_a_block)

-- the words that the four slots of a block complete
abbrev pub words_from_block : List (List ℕ) → List ℕ → List (List ℕ)
words_from_block slots block = run_gives gather_next gather_gives slots (slots_in block 0 slots_a_block)

-- four bytes from a place on
abbrev pub four_in : List ℕ → ℕ → List ℕ
four_in bytes at = map (λ i. slice_index bytes (at + i)) (below 4)

-- four bytes, each one slot and one place after the previous one
abbrev pub sloping_in : List ℕ → ℕ → List ℕ
sloping_in bytes at = map (λ i. slice_index bytes (at + (symbols_a_slot + 1) * i)) (below 4)

-- The bytes of the last seven slots and of the block after them are symbols.
abbrev pub AreRowSymbols : List ℕ → List ℕ → List ℕ → Type 0
AreRowSymbols early late block = (n : ℕ) → n < row_bytes
    → slice_index (early ++ (late ++ block)) n < symbol_values

-- The bytes of the last seven slots of a stream are symbols. `count` of these slots were read. If `quiet` is true, all
-- seven were read and all their symbols are 0.
pub record IsWindow (bytes : List ℕ) (count : ℕ) (quiet : Bool) : Type 0 where
  pub size : length bytes ≡ before_bytes
  pub few : count ≤ packs_kept_back
  pub symbols : (n : ℕ) → n < before_bytes → slice_index bytes n < symbol_values
  pub full : quiet ≡ true → count ≡ packs_kept_back
  pub zeros : quiet ≡ true → (n : ℕ) → n < before_bytes → slice_index bytes n % 64 ≡ 0
