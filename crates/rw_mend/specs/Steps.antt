-- The state after the first words of some readings were mended.
use Rattle.std.specs.Prelude.{◌≡◌, ℕ, ◌*◌, ◌<◌, ◌≤◌, List, [], ◌++◌, length, map, drop, slice_index_or, Option, None}
use Rattle.raw_subcode.specs.Sizes.{symbols_a_slot}
use Rattle.rw_mend.specs.Choice.{IsMending}
use Rattle.rw_mend.specs.Drops.{AreCandidates}
use Rattle.rw_mend.specs.Losses.{AreLosses}
use Rattle.rw_mend.specs.Readings.{programs_in}
use Rattle.rw_mend.specs.Streams.{AreCounts, mended_text, ways_of}
use Rattle.rw_mend.specs.Tallies.{AreTallies, source_byte}
use Rattle.rw_mend.specs.declared.tallies.Tallies.{Tallies}
use Rattle.rw_mend.specs.declared.choice.Mended.{Mended}
use Rattle.rw_mend.specs.declared.readings.Readings.{Readings}
use Rattle.rw_mend.specs.declared.streams.MendCounts.{MendCounts}
use Rattle.rw_mend.specs.declared.candidates.Candidate.{Candidate}

-- The first n of `words` words are mended, and their packs are written. `has` is true for their candidates and results.
pub record IsMendedTo (readings : Readings) (words n : ℕ) (before packs : List ℕ)
    (has : List (List Candidate) → List (Option Mended) → Type 0) : Type 0 where
  pub said : List (List Candidate)
  pub found : List (Option Mended)
  pub said_count : length said ≡ n
  pub count : length found ≡ n
  pub candidates : (k : ℕ) → k < n → AreCandidates words (programs_in readings) k (slice_index_or said k [])
  pub each : (k : ℕ) → k < n → IsMending (slice_index_or said k []) (slice_index_or found k None)
  pub size : length (mended_text found) ≡ symbols_a_slot * n
  pub text : packs ≡ mended_text found ++ drop (symbols_a_slot * n) before
  pub has_it : has said found

-- The words are counted by the way in which they are mended.
abbrev pub AreCounted : MendCounts → List (List Candidate) → List (Option Mended) → Type 0
AreCounted counts said found = AreCounts (ways_of said found) counts

-- The tallies count the words, and `sources` has the bytes that name their sources if there is room for all words.
pub record CountsWords (before : List ℕ) (words : ℕ) (sources : List ℕ) (tallies : Tallies)
    (said : List (List Candidate)) (found : List (Option Mended)) : Type 0 where
  pub tallies_are : AreTallies found tallies
  pub size : length sources ≡ length before
  pub put : words ≤ length before → sources ≡ map source_byte found ++ drop (length found) before

-- The words are counted as in `CountsWords`, and `lost` counts the lost words of each reading.
abbrev pub AreReported : List ℕ → ℕ → List ℕ → Tallies → List ℕ → List (List Candidate) → List (Option Mended)
    → Type 0
AreReported before words sources tallies lost said found =
    CountsWords before words sources tallies said found × AreLosses lost said found
