-- The places of the tracks of a sheet on the disc.
use Rattle.std.specs.Prelude.{ℕ, ◌+◌, List, [], length, ◌∷◌, map, take, sum_by, Option, None, max, ◌==◌, if◌then◌else◌}
use Rattle.bit_lists.specs.Counting.{below}
use Rattle.disc_time.specs.Counts.{pause_blocks}
use Rattle.cue_sheet.specs.CueSheet.{CueTrack, CueSheet, track_of, index_line_of}

-- a track on the disc: its number, its control bits, its ISRC, the block at which it begins, and its index lines (each a
-- number and a block)
pub record TrackPlace : Type 0 where
  pub number : ℕ
  pub control : ℕ
  pub isrc : Option (List ℕ)
  pub begin : ℕ
  pub lines : List (ℕ × ℕ)

-- a disc: its catalogue number, its tracks, and the number of its program blocks
pub record DiscLayout : Type 0 where
  pub catalogue : Option (List ℕ)
  pub tracks : List TrackPlace
  pub blocks : ℕ

-- the default for a place without a track
abbrev pub no_place : TrackPlace
no_place = record { number = 0; control = 0; isrc = None; begin = 0; lines = [] }

-- the sum of the pregaps of the first `count` tracks, in blocks
unfoldable pub pregaps_to : CueSheet → ℕ → ℕ
pregaps_to sheet count = sum_by (λ (t : CueTrack). t.pregap) (take count sheet.tracks)

-- the sum of the postgaps of the first `count` tracks, in blocks
unfoldable pub postgaps_to : CueSheet → ℕ → ℕ
postgaps_to sheet count = sum_by (λ (t : CueTrack). t.postgap) (take count sheet.tracks)

-- the block of file time 0 for track k (from 0): before it are two seconds, the gaps of the previous tracks and the pregap
-- of track k
abbrev pub blocks_before : CueSheet → ℕ → ℕ
blocks_before sheet k = pause_blocks + pregaps_to sheet (k + 1) + postgaps_to sheet k

-- the file time of the first index line of a track, in blocks
abbrev pub first_index_time : CueTrack → ℕ
first_index_time track = (index_line_of track 0).1

-- the block at which track k begins: block 0 for the first track, for each other track the first block of its pregap or,
-- without a pregap, of its first index line
abbrev pub track_begin : CueSheet → ℕ → ℕ
track_begin sheet k = if k == 0 then 0
    else pause_blocks + pregaps_to sheet k + postgaps_to sheet k + first_index_time (track_of sheet k)

-- the place of track k, counted from 0
abbrev pub place_of : CueSheet → ℕ → TrackPlace
place_of sheet k =
    let track = track_of sheet k in
    record {
      number = track.number;
      control = track.control;
      isrc = track.isrc;
      begin = track_begin sheet k;
      lines = map (λ (line : ℕ × ℕ). (line.0, blocks_before sheet k + line.1)) track.indices;
    }

-- the number of program blocks: two seconds, the audio and all gaps
abbrev pub program_blocks : CueSheet → ℕ → ℕ
program_blocks sheet audio =
    pause_blocks + audio + (pregaps_to sheet (length sheet.tracks) + postgaps_to sheet (length sheet.tracks))

-- the greatest of some numbers, or 0 if there are none
unfoldable pub greatest : List ℕ → ℕ
greatest [] = 0
greatest (x ∷ xs) = max x (greatest xs)

-- the greatest time of an index line of a track, in blocks from the beginning of the audio file
abbrev pub latest_time : CueTrack → ℕ
latest_time track = greatest (map (λ (line : ℕ × ℕ). line.1) track.indices)

-- the number of blocks of audio that the index lines of a sheet need: one more than the greatest of their times
unfoldable pub audio_need : CueSheet → ℕ
audio_need sheet = greatest (map latest_time sheet.tracks) + 1

-- the layout of the disc for a sheet and an audio file of `audio` blocks
abbrev pub layout_of : CueSheet → ℕ → DiscLayout
layout_of sheet audio = record {
  catalogue = sheet.catalogue;
  tracks = map (place_of sheet) (below (length sheet.tracks));
  blocks = program_blocks sheet audio;
}
