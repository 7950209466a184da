-- The steps of a gatherer: from the last slots, at most seven, and a further slot.
use Rattle.std.specs.Prelude.{ℕ, ◌-◌, ◌*◌, ◌%◌, List, [], ◌∷◌, ◌++◌, length, map, drop, replicate, slice_index, slice_index_or, nat_lt, if◌then◌else◌, None, Some}
use Rattle.std.specs.declared.option.Option.{Option}
use Rattle.std.specs.List.{concat}
use Rattle.bit_lists.specs.Counting.{below}
use Rattle.raw_subcode.specs.Sizes.{symbols_a_slot}
use Rattle.rw_code.specs.Sizes.{word_symbols}
use Rattle.rw_interleave.specs.Interleave.{packs_kept_back, span, swapped}

-- the last seven slots or packs, or all if there are fewer
abbrev pub last_seven : List (List ℕ) → List (List ℕ)
last_seven slots = drop (length slots - packs_kept_back) slots

-- the symbols of the last slots, at most seven, with zeros before the first
abbrev pub kept_symbols : List (List ℕ) → List ℕ
kept_symbols slots = replicate (symbols_a_slot * (packs_kept_back - length slots)) 0 ++ concat slots

-- the symbol at a position of the slot that is `position % 8` slots after the first one
abbrev pub symbol_at : List (List ℕ) → ℕ → ℕ
symbol_at slots position = slice_index (slice_index_or slots (position % span) []) position

-- the word whose last symbol is in the last of eight slots
unfoldable pub gathered : List (List ℕ) → List ℕ
gathered slots = map (λ i. symbol_at slots (swapped i)) (below word_symbols)

-- the last slots after one more slot
unfoldable pub gather_next : List (List ℕ) → List ℕ → List (List ℕ)
gather_next slots slot = last_seven (slots ++ slot ∷ [])

-- the word that a slot completes: the first seven slots complete none
unfoldable pub gather_gives : List (List ℕ) → List ℕ → Option (List ℕ)
gather_gives slots slot = if nat_lt (length slots) packs_kept_back then None
    else Some (gathered (slots ++ slot ∷ []))
