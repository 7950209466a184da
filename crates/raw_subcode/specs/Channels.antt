-- Blocks of 96 bytes: eight channels of 96 bits, P to W, one bit of each in a byte.
use Rattle.std.specs.Prelude.{◌≡◌, ℕ, ◌+◌, ◌-◌, ◌*◌, ◌%◌, ◌<◌, Bool, List, length, map, flat_map, drop, slice_index}
use Rattle.bit_lists.specs.Counting.{whole_parts}
use Rattle.bit_lists.specs.Bits.{has_bit, bits_of}
use Rattle.raw_subcode.specs.Sizes.{block_bytes, sector_bytes}
use Rattle.raw_subcode.specs.declared.form.Form.{Form}
use Rattle.raw_subcode.specs.declared.form.Form.TheVariants.{Sector}

-- the bit of a channel in a byte: channel 0 is P and the highest bit, channel 7 is W and the lowest
abbrev pub channel_bit : ℕ → ℕ → Bool
channel_bit channel byte = has_bit (7 - channel) byte

-- the P bits of a block
abbrev pub p_bits : List ℕ → List Bool
p_bits block = map (channel_bit 0) block

-- the Q bits of a block
abbrev pub q_bits : List ℕ → List Bool
q_bits block = map (channel_bit 1) block

-- the symbols of a block: the low six bits of each byte, channels R to W
abbrev pub symbols_of : List ℕ → List ℕ
symbols_of block = map (λ byte. byte % 64) block

-- the bits of some symbols, the highest bit of each symbol first
abbrev pub symbol_bits : List ℕ → List Bool
symbol_bits symbols = flat_map (bits_of 6) symbols

-- `planar` is the planar form of the block: twelve bytes for each channel, with its bits in order.
pub record IsPlanarForm (block planar : List ℕ) : Type 0 where
  pub size : length planar ≡ block_bytes
  pub bit : (channel k j : ℕ) → channel < 8 → k < 12 → j < 8 →
      has_bit (7 - j) (slice_index planar (12 * channel + k))
      ≡ channel_bit channel (slice_index block (8 * k + j))

-- the number of bytes in a unit: in the form `Sector` a sector, and otherwise a block
abbrev pub unit_size : Form → ℕ
unit_size Sector = sector_bytes
unit_size _ = block_bytes

-- the block in the bytes of a unit: in a sector, it follows 2,352 bytes of audio
abbrev pub block_of : Form → List ℕ → List ℕ
block_of form bytes = drop (unit_size form - block_bytes) bytes

-- the blocks of a stream in this form
abbrev pub blocks_of : Form → List ℕ → List (List ℕ)
blocks_of form bytes = map (block_of form) (whole_parts (unit_size form) bytes)

-- the symbols of the program: those of all blocks after the first `lead_in` blocks
abbrev pub program_symbols : Form → List ℕ → ℕ → List ℕ
program_symbols form bytes lead_in = flat_map symbols_of (drop lead_in (blocks_of form bytes))
