-- Streams of blocks and of their planar forms.
use Rattle.std.specs.Prelude.{◌≡◌, ℕ, ◌*◌, ◌/◌, ◌<◌, List, [], length, slice_index_or}
use Rattle.bit_lists.specs.Counting.{whole_parts}
use Rattle.raw_subcode.specs.Channels.{IsPlanarForm}
use Rattle.raw_subcode.specs.Sizes.{block_bytes}

-- Each whole block is converted into a block, and nothing else is written.
pub record TurnsBlocks (turned : List ℕ → List ℕ → Type 0) (bytes text : List ℕ) : Type 0 where
  pub size : length text ≡ block_bytes * (length bytes / block_bytes)
  pub blocks : (n : ℕ) → n < length bytes / block_bytes
      → turned (slice_index_or (whole_parts block_bytes bytes) n [])
      (slice_index_or (whole_parts block_bytes text) n [])

-- The output has the planar form of each block of the input.
abbrev pub IsPlanarStream : List ℕ → List ℕ → Type 0
IsPlanarStream bytes text = TurnsBlocks IsPlanarForm bytes text

-- The output has the block of each planar form of the input.
abbrev pub IsBlockStream : List ℕ → List ℕ → Type 0
IsBlockStream bytes text = TurnsBlocks (λ planar block. IsPlanarForm block planar) bytes text
