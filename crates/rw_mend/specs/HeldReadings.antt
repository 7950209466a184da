-- Readings of equal length that lie one behind another.
use Rattle.std.specs.Prelude.{◌≡◌, ◌*◌, ◌<◌, ◌≤◌, ℕ, Bool, false, true, List, [], length, slice_index_or}
use Rattle.bit_lists.specs.Counting.{parts}
use Rattle.rw_mend.specs.Chosen.{Rule, blocks_at, channels_of, completed, has_eligible_channels, has_eligible_symbols, matches_of}
use Rattle.rw_mend.specs.declared.held_readings.HeldReadings.{HeldReadings}
use Rattle.rw_mend.specs.declared.parts.BlockPart.{BlockPart}
use Rattle.rw_mend.specs.declared.parts.BlockPart.TheVariants.{Channels, Symbols}

-- the bytes of each reading
abbrev pub held_parts : HeldReadings → List (List ℕ)
held_parts readings = parts readings.count readings.size readings.bytes.now

-- There are 1 to 254 readings of equal length.
pub record AreHeld (readings : HeldReadings) : Type 0 where
  pub some : 0 < readings.count
  pub few : readings.count ≤ 254
  pub long : length readings.bytes.now ≡ readings.count * readings.size

-- block b of each reading
abbrev pub held_blocks : HeldReadings → ℕ → List (List ℕ)
held_blocks readings b = blocks_at (held_parts readings) b

-- ---- The rule by which a part of blocks is chosen.

abbrev pub is_eligible_for : BlockPart → List (List ℕ) → List ℕ → Bool
is_eligible_for Channels blocks = has_eligible_channels blocks
is_eligible_for (Symbols known) blocks = has_eligible_symbols blocks

abbrev pub matches_in : BlockPart → List ℕ → ℕ
matches_in Channels = λ block. 0
matches_in (Symbols known) = matches_of known.now

abbrev pub part_of : BlockPart → List ℕ → List ℕ
part_of Channels = channels_of
part_of (Symbols known) = completed known.now

abbrev pub rule_of : BlockPart → List (List ℕ) → Rule
rule_of part blocks = record {
  is_eligible = is_eligible_for part blocks;
  matches = matches_in part;
  part = part_of part;
}

-- ---- What is known of blocks.

-- each mark says whether a block passes a test
abbrev pub AreMarks : (List ℕ → Bool) → List (List ℕ) → List Bool → Type 0
AreMarks test blocks marks = (r : ℕ) → r < length blocks
    → slice_index_or marks r false ≡ test (slice_index_or blocks r [])

-- some block passes a test
pub record IsAny (test : List ℕ → Bool) (blocks : List (List ℕ)) : Type 0 where
  pub reading : ℕ
  pub within : reading < length blocks
  pub passes : test (slice_index_or blocks reading []) ≡ true

-- all blocks have the same part
abbrev pub HaveSamePart : (List ℕ → List ℕ) → List (List ℕ) → Type 0
HaveSamePart part blocks = (r : ℕ) → r < length blocks
    → part (slice_index_or blocks r []) ≡ part (slice_index_or blocks 0 [])
