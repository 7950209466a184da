-- The steps of a spreader: from the last packs, at most seven, and a further pack.
use Rattle.std.specs.Prelude.{ℕ, ◌-◌, ◌%◌, List, [], ◌∷◌, ◌++◌, length, map, replicate, slice_index, slice_index_or, nat_lt, if◌then◌else◌, Some}
use Rattle.std.specs.declared.option.Option.{Option}
use Rattle.bit_lists.specs.Counting.{below}
use Rattle.raw_subcode.specs.Sizes.{symbols_a_slot}
use Rattle.rw_interleave.specs.Interleave.{span, swapped}
use Rattle.rw_interleave.specs.Gathering.{last_seven}
use Rattle.rw_code.specs.Packs.{idle_pack}

-- the symbol at a position of the slot of the last pack: it belongs to the pack that is `position % 8` packs before the
-- last one, or is 0 if there is no such pack
unfoldable pub spread_symbol : List (List ℕ) → ℕ → ℕ
spread_symbol packs position =
    if nat_lt (position % span) (length packs)
    then slice_index (slice_index_or packs (length packs - position % span - 1) []) (swapped position) else 0

-- the slot that is written for the last of some packs
unfoldable pub spread_over : List (List ℕ) → List ℕ
spread_over packs = map (spread_symbol packs) (below symbols_a_slot)

-- the last packs after one more pack
unfoldable pub spread_next : List (List ℕ) → List ℕ → List (List ℕ)
spread_next packs pack = last_seven (packs ++ pack ∷ [])

-- the slot that is written for a pack; it is never `None`
unfoldable pub spread_gives : List (List ℕ) → List ℕ → Option (List ℕ)
spread_gives packs pack = Some (spread_over (packs ++ pack ∷ []))

-- packs, followed by idle packs up to `count` packs
abbrev pub filled_with_idle : ℕ → List (List ℕ) → List (List ℕ)
filled_with_idle count packs = packs ++ replicate (count - length packs) idle_pack
