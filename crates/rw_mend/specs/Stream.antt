-- A stream mended from readings.
use Rattle.std.specs.Prelude.{◌≡◌, ℕ, ◌+◌, ◌-◌, ◌*◌, ◌/◌, ◌%◌, ◌<◌, nat_lt, if◌then◌else◌, List, [], ◌++◌, length, map, drop, slice_index, slice_index_or, Option, Some, None}
use Rattle.bit_lists.specs.Counting.{below, parts}
use Rattle.raw_subcode.specs.Channels.{symbols_of}
use Rattle.raw_subcode.specs.Sizes.{block_bytes, symbols_a_slot}
use Rattle.rw_code.specs.Sizes.{word_symbols}
use Rattle.rw_interleave.specs.Interleave.{swapped, whole_packs}
use Rattle.rw_mend.specs.Drops.{AreDropCounts}
use Rattle.rw_mend.specs.Losses.{AreLosses}
use Rattle.rw_mend.specs.Many.{programs_of, words_in_each}
use Rattle.rw_mend.specs.Streams.{AreMended}
use Rattle.rw_mend.specs.Tallies.{AreTallies, source_byte}
use Rattle.rw_mend.specs.Words.{block_at}
use Rattle.rw_mend.specs.declared.choice.Mended.{Mended}
use Rattle.rw_mend.specs.declared.tallies.Tallies.{Tallies}
use Rattle.rw_mend.specs.declared.candidates.Candidate.{Candidate}
use Rattle.rw_mend.specs.Chosen.{IsChosen, blocks_at, channel_rule, channels_of, symbol_rule}
use Rattle.rw_mend.specs.Symbols.{first_slot, stream_place}

-- Symbol i of word n, which was mended into this codeword, is at byte p of a stream.
pub record IsMendedPlace (lead_in : ℕ) (found : List (Option Mended)) (p n i : ℕ) (codeword : Mended) : Type 0
  where
    pub word : n < length found
    pub symbol : i < word_symbols
    pub is : slice_index_or found n None ≡ Some codeword
    pub place : stream_place lead_in n i ≡ p

-- symbol i of the codeword of a word, if the word is mended
abbrev pub found_symbol : Option Mended → ℕ → Option ℕ
found_symbol (Some own) i = Some (slice_index own.pack i)
found_symbol None i = None

-- the symbol of a mended word at byte p, if the byte belongs to one
unfoldable pub mended_symbol : ℕ → List (Option Mended) → ℕ → Option ℕ
mended_symbol lead_in found p = if nat_lt (p / symbols_a_slot) (first_slot lead_in p) then None
    else found_symbol (slice_index_or found (p / symbols_a_slot - first_slot lead_in p) None)
    (swapped (p % symbols_a_slot))

-- the symbols of mended words in block b
abbrev pub mended_symbols : ℕ → List (Option Mended) → ℕ → List (Option ℕ)
mended_symbols lead_in found b =
    map (λ k. mended_symbol lead_in found (block_bytes * b + k)) (below block_bytes)

-- Block b of a stream. Channels P and Q are those chosen of the blocks of the readings. Each byte has the symbol of its
-- mended word. Every other symbol is that of one reading: of the block whose symbols are chosen.
pub record IsMendedBlock (lead_in : ℕ) (readings : List (List ℕ)) (found : List (Option Mended)) (b : ℕ)
    (block : List ℕ) : Type 0 where
  pub channels : IsChosen (channel_rule (blocks_at readings b)) (blocks_at readings b) (channels_of block)
  pub symbols : IsChosen (symbol_rule (mended_symbols lead_in found b) (blocks_at readings b))
      (blocks_at readings b) (symbols_of block)
  pub mended : (k n i : ℕ) (own : Mended) → k < block_bytes
      → IsMendedPlace lead_in found (block_bytes * b + k) n i own
      → slice_index block k % 64 ≡ slice_index own.pack i
  pub others : (k : ℕ) → k < block_bytes
      → ((n i : ℕ) (own : Mended) → ¬ IsMendedPlace lead_in found (block_bytes * b + k) n i own)
      → slice_index block k % 64
      ≡ slice_index (slice_index_or (blocks_at readings b) symbols.reading []) k % 64

-- This is the mended stream of readings with these results for their words.
pub record IsMendedStream (lead_in : ℕ) (readings : List (List ℕ)) (found : List (Option Mended))
    (stream : List ℕ) : Type 0 where
  pub size : length stream ≡ length (slice_index_or readings 0 [])
  pub whole : length stream % block_bytes ≡ 0
  pub words : length found ≡ whole_packs (length stream / block_bytes - lead_in)
  pub blocks : (b : ℕ) → b < length stream / block_bytes
      → IsMendedBlock lead_in readings found b (block_at stream b)

-- The readings are mended: their stream is at the front of a buffer, and the bytes that name the sources of its words are
-- at the front of another. The bytes behind them are unchanged.
pub record AreMendedIntoStream (count lead_in : ℕ) (readings old new old_sources new_sources : List ℕ)
    (tallies : Tallies) : Type 0 where
  pub said : List (List Candidate)
  pub found : List (Option Mended)
  pub mended : AreMended (words_in_each count lead_in readings) (programs_of count lead_in readings) said
      found
  pub tallies_are : AreTallies found tallies
  pub dropped : AreDropCounts (words_in_each count lead_in readings) (programs_of count lead_in readings)
      (words_in_each count lead_in readings) tallies.dropped
  pub stream : List ℕ
  pub is : IsMendedStream lead_in (parts count (length readings / count) readings) found stream
  pub blocks : new ≡ stream ++ drop (length stream) old
  pub sources : new_sources ≡ map source_byte found ++ drop (length found) old_sources

-- The readings are mended as in `AreMendedIntoStream`, and `lost` counts the lost words of each reading.
pub record AreReportedIntoStream (count lead_in : ℕ) (readings old new old_sources new_sources : List ℕ)
    (tallies : Tallies) (lost : List ℕ) : Type 0 where
  pub into : AreMendedIntoStream count lead_in readings old new old_sources new_sources tallies
  pub losses : AreLosses lost into.said into.found
