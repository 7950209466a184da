-- What follows for a mended stream.
use Rattle.std.specs.Prelude.{◌≡◌, ◌/◌, ◌%◌, ◌<◌, ◌≤◌, true, ℕ, List, [], length, slice_index, slice_index_or, Option, Some, None}
use Rattle.raw_subcode.specs.Channels.{p_bits, q_bits}
use Rattle.raw_subcode.specs.Sizes.{block_bytes}
use Rattle.rw_code.specs.Finding.{IsFinding}
use Rattle.rw_code.specs.Sizes.{word_symbols}
use Rattle.rw_mend.specs.declared.choice.Mended.{Mended}
use Rattle.rw_mend.specs.Chosen.{IsChosen, blocks_at, channel_rule, channels_of, has_eligible_channels, is_framed_block, symbol_rule, votes_for}
use Rattle.rw_mend.specs.Stream.{mended_symbols}
use Rattle.rw_mend.specs.Symbols.{stream_place}

-- This is the symbol at byte p of the reading whose symbols are chosen for this block of a stream.
pub record IsReadSymbol (lead_in : ℕ) (readings : List (List ℕ)) (found : List (Option Mended)) (p symbol : ℕ)
    : Type 0 where
  pub symbols : List ℕ
  pub chosen : IsChosen
      (symbol_rule (mended_symbols lead_in found (p / block_bytes)) (blocks_at readings (p / block_bytes)))
      (blocks_at readings (p / block_bytes)) symbols
  pub is : symbol
      ≡ slice_index (slice_index_or (blocks_at readings (p / block_bytes)) chosen.reading [])
      (p % block_bytes) % 64

-- This is word n of the symbols that are chosen.
pub record IsReadWord (lead_in : ℕ) (readings : List (List ℕ)) (found : List (Option Mended)) (n : ℕ)
    (word : List ℕ) : Type 0 where
  pub size : length word ≡ word_symbols
  pub symbols : (i : ℕ) → i < word_symbols
      → IsReadSymbol lead_in readings found (stream_place lead_in n i) (slice_index word i)

-- This is the correction of word n of the symbols that are chosen.
pub record IsReadFinding (lead_in : ℕ) (readings : List (List ℕ)) (found : List (Option Mended)) (n : ℕ)
    (pack : Option (List ℕ)) : Type 0 where
  pub word : List ℕ
  pub is : IsReadWord lead_in readings found n word
  pub finding : IsFinding word pack

-- These packs are recovered from a mended stream: the codeword of each mended word, and for any other word the correction
-- of the symbols that are chosen.
pub record AreFoundAgain (lead_in : ℕ) (readings : List (List ℕ)) (found : List (Option Mended))
    (recovered : List (Option (List ℕ))) : Type 0 where
  pub count : length recovered ≡ length found
  pub mended : (n : ℕ) (own : Mended) → n < length found → slice_index_or found n None ≡ Some own
      → slice_index_or recovered n None ≡ Some own.pack
  pub others : (n : ℕ) → n < length found → slice_index_or found n None ≡ None
      → IsReadFinding lead_in readings found n (slice_index_or recovered n None)

-- Channels P and Q of a block are those of an eligible block of a reading, and no others have more votes.
pub record HasChosenChannels (blocks : List (List ℕ)) (block : List ℕ) : Type 0 where
  pub reading : ℕ
  pub within : reading < length blocks
  pub eligible : has_eligible_channels blocks (slice_index_or blocks reading []) ≡ true
  pub q : q_bits block ≡ q_bits (slice_index_or blocks reading [])
  pub p : p_bits block ≡ p_bits (slice_index_or blocks reading [])
  pub most : (r : ℕ) → r < length blocks → has_eligible_channels blocks (slice_index_or blocks r []) ≡ true
      → votes_for (channel_rule blocks) blocks (channels_of (slice_index_or blocks r []))
      ≤ votes_for (channel_rule blocks) blocks (channels_of block)
  pub framed : (r : ℕ) → r < length blocks → is_framed_block (slice_index_or blocks r []) ≡ true
      → is_framed_block block ≡ true
