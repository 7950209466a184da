-- What is known while the words of readings are mended in turn.
use Rattle.std.specs.Prelude.{◌≡◌, ℕ, ◌<◌, false, List, [], length, slice_index_or}
use Rattle.rw_mend.specs.Choice.{candidate_of_reading}
use Rattle.rw_mend.specs.Readings.{program_in}
use Rattle.rw_mend.specs.Histories.{AreSameFrom, IsHistory}
use Rattle.rw_mend.specs.Words.{given_at}
use Rattle.rw_mend.specs.declared.cover.BlockHistory.{BlockHistory}
use Rattle.rw_mend.specs.declared.readings.Readings.{Readings}
use Rattle.rw_mend.specs.declared.candidates.Candidate.{Candidate}

-- a default history
abbrev pub no_history : BlockHistory
no_history = record {
  first = false;
  second = false;
  third = false;
  first_blank = false;
  second_blank = false;
  third_blank = false;
}

-- These are the histories of all readings at word n.
pub record AreHistories (programs : List (List ℕ)) (n : ℕ) (histories : List BlockHistory) : Type 0 where
  pub each : (r : ℕ) → r < length programs
      → IsHistory (slice_index_or programs r []) n (slice_index_or histories r no_history)

-- For each reading, the blocks from its block in `from` to before block `blocks` equal those of the first reading.
pub record AreFollowed (readings : Readings) (blocks : ℕ) (from : List ℕ) : Type 0 where
  pub each : (r : ℕ) → r < readings.count
      → AreSameFrom (program_in readings 0) (program_in readings r) blocks (slice_index_or from r 0)

-- A row has the candidate of each reading at word n, regardless of the other readings.
pub record IsRow (programs : List (List ℕ)) (n : ℕ) (row : List Candidate) : Type 0 where
  pub each : (r : ℕ) → r < length programs → candidate_of_reading row r ≡ given_at programs r n
