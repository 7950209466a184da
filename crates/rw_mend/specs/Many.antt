-- Any number of readings of a stream, mended word by word.
use Rattle.std.specs.Prelude.{◌≡◌, ℕ, ◌*◌, ◌-◌, ◌/◌, ◌≤◌, List, ◌++◌, length, map, drop, Option}
use Rattle.bit_lists.specs.Counting.{parts}
use Rattle.raw_subcode.specs.Sizes.{block_bytes, symbols_a_slot}
use Rattle.rw_interleave.specs.Interleave.{whole_packs}
use Rattle.rw_mend.specs.Drops.{AreDropCounts}
use Rattle.rw_mend.specs.Losses.{AreLosses}
use Rattle.rw_mend.specs.Streams.{AreMended, mended_text}
use Rattle.rw_mend.specs.Tallies.{AreTallies, source_byte}
use Rattle.rw_mend.specs.Words.{program_of}
use Rattle.rw_mend.specs.declared.choice.Mended.{Mended}
use Rattle.rw_mend.specs.declared.tallies.Tallies.{Tallies}
use Rattle.rw_mend.specs.declared.candidates.Candidate.{Candidate}

-- the programs of `count` readings that lie one behind another
abbrev pub programs_of : ℕ → ℕ → List ℕ → List (List ℕ)
programs_of count lead_in readings = map (program_of lead_in) (parts count (length readings / count) readings)

-- the number of words in each of `count` readings
abbrev pub words_in_each : ℕ → ℕ → List ℕ → ℕ
words_in_each count lead_in readings = whole_packs (length readings / count / block_bytes - lead_in)

-- The words of all readings are mended. Their text is at the front of a buffer. If there is room, the bytes that name their
-- sources are at the front of another. The bytes behind them are unchanged.
pub record AreAllMendedInto (count lead_in : ℕ) (readings old new old_sources new_sources : List ℕ)
    (tallies : Tallies) : Type 0 where
  pub said : List (List Candidate)
  pub found : List (Option Mended)
  pub mended : AreMended (words_in_each count lead_in readings) (programs_of count lead_in readings) said
      found
  pub tallies_are : AreTallies found tallies
  pub dropped : AreDropCounts (words_in_each count lead_in readings) (programs_of count lead_in readings)
      (words_in_each count lead_in readings) tallies.dropped
  pub size : length (mended_text found) ≡ symbols_a_slot * words_in_each count lead_in readings
  pub text : new ≡ mended_text found ++ drop (length (mended_text found)) old
  pub sources_size : length new_sources ≡ length old_sources
  pub sources : words_in_each count lead_in readings ≤ length old_sources
      → new_sources ≡ map source_byte found ++ drop (words_in_each count lead_in readings) old_sources

-- The words are mended as in `AreAllMendedInto`. `lost` counts the lost words of each reading: a lost word has a codeword
-- with no wrong symbol that counts, and the output has another one or none.
pub record AreAllReported (count lead_in : ℕ) (readings old new old_sources new_sources : List ℕ)
    (tallies : Tallies) (lost : List ℕ) : Type 0 where
  pub into : AreAllMendedInto count lead_in readings old new old_sources new_sources tallies
  pub losses : AreLosses lost into.said into.found
