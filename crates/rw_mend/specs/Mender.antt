-- The state of a mender at each word.
use Rattle.std.specs.Prelude.{◌≡◌, ℕ, ◌+◌, ◌-◌, ◌/◌, ◌<◌, ◌≤◌, length}
use Rattle.raw_subcode.specs.Sizes.{block_bytes}
use Rattle.rw_interleave.specs.Interleave.{whole_packs}
use Rattle.rw_mend.specs.Choice.{candidate_of_reading}
use Rattle.rw_mend.specs.Drops.{AreDropCounts, IsSaid}
use Rattle.rw_mend.specs.Readings.{AreHeldReadings, programs_in, size_in}
use Rattle.rw_mend.specs.Rows.{AreFollowed, AreHistories}
use Rattle.rw_mend.specs.Silences.{AreSilences, IsCalm}
use Rattle.rw_mend.specs.declared.readings.Readings.{Readings}
use Rattle.rw_mend.specs.declared.mender.Mender.{Mender}

-- The mender has passed the words before word n.
pub record IsDecoding (readings : Readings) (n : ℕ) (mender : Mender) : Type 0 where
  pub are : AreHeldReadings readings
  pub words : mender.words ≡ whole_packs (size_in readings / block_bytes)
  pub few : mender.words ≤ 4000000
  pub histories_kept : length mender.histories ≡ 254
  pub same_kept : length mender.same_from ≡ 254
  pub silences_kept : length mender.silences ≡ 254
  pub said_kept : length mender.said ≡ 254
  pub dropped_kept : length mender.dropped ≡ 254
  pub histories : 0 < n → AreHistories (programs_in readings) (n - 1) mender.histories
  pub same : AreFollowed readings ((n + 6) / 4 + 1) mender.same_from
  pub silences : AreSilences mender.words (programs_in readings) n mender.silences
  pub calm : IsCalm (programs_in readings) n mender.calm
  pub dropped : AreDropCounts mender.words (programs_in readings) n mender.dropped

-- The mender is at word n: it has the candidates of the readings, and it can advance to the next word.
pub record HasComeTo (readings : Readings) (n : ℕ) (mender : Mender) : Type 0 where
  pub decoding : IsDecoding readings (n + 1) mender
  pub said : (r : ℕ) → r < readings.count
      → IsSaid mender.words (programs_in readings) n r (candidate_of_reading mender.said r)
