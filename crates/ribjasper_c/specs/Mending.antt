-- Mended readings in memory, and the refusals of a request.
use Rattle.std.specs.Prelude.{◌≡◌, ◌<◌, ◌≤◌, ◌==◌, ◌||◌, ◌*◌, ◌-◌, ◌/◌, ◌%◌, not, nat_lt, if◌then◌else◌, ℕ, List, length, Option, Some, None}
use Rattle.disc_time.specs.Counts.{most_lead_in}
use Rattle.raw_subcode.specs.Sizes.{block_bytes, most_units, symbols_a_slot}
use Rattle.rw_interleave.specs.Interleave.{whole_packs}
use Rattle.rw_mend.specs.Many
use Rattle.rw_mend.specs.Many.{words_in_each}
use Rattle.rw_mend.specs.Streams.{IsMendedInto}
use Rattle.rw_mend.specs.Stream.{AreMendedIntoStream, AreReportedIntoStream}
use Rattle.ribjasper_c.specs.declared.mending.MendReported.{MendReported}
use Rattle.ribjasper_c.specs.declared.mending.MendedReadings.{MendedReadings}
use Rattle.ribjasper_c.specs.declared.mending.MendedStream.{MendedStream}
use Rattle.ribjasper_c.specs.declared.mending.Shape.{Shape}

-- The exit status with which two readings of these sizes are refused. It is 2 if the lead-in is too long; else 3 if the
-- sizes differ, are not whole blocks or are too large; else 6 if the room is smaller than the packs.
abbrev pub refusal_of : ℕ → ℕ → ℕ → ℕ → Option ℕ
refusal_of first second lead_in room =
    if nat_lt most_lead_in lead_in then Some 2
    else (if not (first == second) || not (first % block_bytes == 0)
    || nat_lt (block_bytes * most_units) first then Some 3
    else (if nat_lt room (symbols_a_slot * whole_packs (first / block_bytes - lead_in)) then Some 6
    else None))

-- The packs of both readings are at the front of the room, and the result is right.
pub record AreMendedInto (lead_in : ℕ) (first second old new : List ℕ) (counts : MendedStream) : Type 0 where
  pub mended : IsMendedInto lead_in first second old new counts.words
  pub bytes : counts.bytes ≡ symbols_a_slot * whole_packs (length first / block_bytes - lead_in)
  pub blocks : counts.blocks ≡ length first / block_bytes - lead_in

-- The packs of all readings are at the front of the room. Their sources are at the front of theirs, if there is room for
-- sources. The result is right.
pub record AreReadingsMended (count lead_in : ℕ) (readings old new old_sources new_sources : List ℕ)
    (counts : MendedReadings) : Type 0 where
  pub mended : Many.AreAllMendedInto count lead_in readings old new old_sources new_sources counts.words
  pub bytes : counts.bytes ≡ symbols_a_slot * words_in_each count lead_in readings
  pub blocks : counts.blocks ≡ length readings / count / block_bytes - lead_in

-- The exit status with which readings of this total size are refused as a stream. It is 2 or 3 as for packs
-- (`readings_refusal`), else 6 if the room is smaller than a reading or the room for sources is smaller than the words.
abbrev pub stream_refusal : ℕ → ℕ → ℕ → ℕ → ℕ → Option ℕ
stream_refusal length_of_all count lead_in room sources =
    if nat_lt most_lead_in lead_in || (count == 0) || nat_lt 254 count then Some 2
    else (if not (length_of_all % count == 0) || not (length_of_all / count % block_bytes == 0)
    || nat_lt (block_bytes * most_units) (length_of_all / count) then Some 3
    else (if nat_lt room (length_of_all / count)
    || nat_lt sources (whole_packs (length_of_all / count / block_bytes - lead_in))
    then Some 6
    else None))

-- The stream of all readings is at the front of the room, the sources of its words are at the front of theirs, and the
-- result is right.
pub record IsStreamMended (count lead_in : ℕ) (readings old new old_sources new_sources : List ℕ)
    (counts : MendedReadings) : Type 0 where
  pub mended : AreMendedIntoStream count lead_in readings old new old_sources new_sources counts.words
  pub bytes : counts.bytes ≡ length readings / count
  pub blocks : counts.blocks ≡ length readings / count / block_bytes - lead_in

-- The report on readings mended into packs is right.
pub record AreReadingsReported (count lead_in : ℕ) (readings old new old_sources new_sources : List ℕ)
    (report : MendReported) : Type 0 where
  pub mended : Many.AreAllReported count lead_in readings old new old_sources new_sources report.counts.words
      report.lost
  pub bytes : report.counts.bytes ≡ symbols_a_slot * words_in_each count lead_in readings
  pub blocks : report.counts.blocks ≡ length readings / count / block_bytes - lead_in

-- The report on readings mended into a stream is right.
pub record IsStreamReported (count lead_in : ℕ) (readings old new old_sources new_sources : List ℕ)
    (report : MendReported) : Type 0 where
  pub mended : AreReportedIntoStream count lead_in readings old new old_sources new_sources
      report.counts.words report.lost
  pub bytes : report.counts.bytes ≡ length readings / count
  pub blocks : report.counts.blocks ≡ length readings / count / block_bytes - lead_in

-- ---- The sizes of readings.

-- The exit status with which readings of this total size are refused, whatever the room: 2 if the lead-in or the number of
-- readings is out of range; else 3 if the readings are not whole blocks of equal length, or are too long.
abbrev pub shape_refusal : ℕ → ℕ → ℕ → Option ℕ
shape_refusal length_of_all count lead_in =
    if nat_lt most_lead_in lead_in || (count == 0) || nat_lt 254 count then Some 2
    else (if not (length_of_all % count == 0) || not (length_of_all / count % block_bytes == 0)
    || nat_lt (block_bytes * most_units) (length_of_all / count) then Some 3
    else None)

-- the sizes of readings of this many bytes each: their blocks after the lead-in, and the words of those blocks
abbrev pub shape_of : ℕ → ℕ → Shape
shape_of size lead_in = record {
  size = size;
  blocks = size / block_bytes - lead_in;
  words = whole_packs (size / block_bytes - lead_in);
}

-- So many readings are whole blocks of equal length, and no reading is too long.
pub record AreWhole (length_of_all count : ℕ) : Type 0 where
  pub some : 0 < count
  pub few : count ≤ 254
  pub equal : length_of_all ≡ count * (length_of_all / count)
  pub whole : length_of_all / count % block_bytes ≡ 0
  pub short : length_of_all / count ≤ block_bytes * most_units
