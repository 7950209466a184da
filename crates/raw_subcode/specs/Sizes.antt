-- The sizes of blocks, sectors and slots, and the longest stream. Code calls them by the names of src/sizes.rt.
use Rattle.std.specs.Prelude.{ℕ}

-- the number of symbols in a slot: as many as in a pack (IEC 60908)
abbrev pub symbols_a_slot : ℕ
symbols_a_slot = 24

-- the number of slots in a block; each slot has room for the 24 symbols of a pack (IEC 60908)
abbrev pub slots_a_block : ℕ
slots_a_block = 4

-- the number of bytes in a block: one for each symbol of its slots. So each channel has 96 bits in a block.
abbrev pub block_bytes : ℕ
block_bytes = 96

-- the number of bytes of audio in a sector: 1/75 second of 44,100 samples a second, each of two channels with two bytes
abbrev pub audio_bytes : ℕ
audio_bytes = 2352

-- the number of bytes in a sector: its audio and then its block
abbrev pub sector_bytes : ℕ
sector_bytes = 2448

-- the maximum number of units (blocks or sectors) in a stream: enough for the longest lead-in (450,000 blocks) and the
-- longest program (449,999 blocks). The number of each unit, counted from 0, has at most six digits.
abbrev pub most_units : ℕ
most_units = 1000000
