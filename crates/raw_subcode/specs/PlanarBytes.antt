-- The planar form of a block, and the block of a planar form, byte by byte.
use Rattle.std.specs.Prelude.{ℕ, ◌+◌, ◌-◌, ◌*◌, ◌%◌, ◌/◌, List, map, slice_index}
use Rattle.bit_lists.specs.Counting.{below}
use Rattle.bit_lists.specs.Bits.{has_bit, number_of}
use Rattle.raw_subcode.specs.Channels.{channel_bit}
use Rattle.raw_subcode.specs.Sizes.{block_bytes}

-- the byte with the bits of a channel in eight bytes of a block
abbrev pub packed_at : List ℕ → ℕ → ℕ → ℕ
packed_at block channel first =
    number_of (map (λ j. channel_bit channel (slice_index block (first + j))) (below 8))

-- byte i of the block of a planar form: one bit of each of the eight channels
abbrev pub gathered_at : List ℕ → ℕ → ℕ
gathered_at planar i = number_of
    (map (λ c. has_bit (7 - i % 8) (slice_index planar (12 * c + i / 8))) (below 8))

-- the planar form of a block, byte by byte
abbrev pub planar_form : List ℕ → List ℕ
planar_form block = map (λ i. packed_at block (i / 12) (8 * (i % 12))) (below block_bytes)

-- the block of a planar form, byte by byte
abbrev pub block_from_planar : List ℕ → List ℕ
block_from_planar planar = map (gathered_at planar) (below block_bytes)
