-- The P bit and the Q frame of each block of a disc.
use Rattle.std.specs.Prelude.{◌≡◌, ◌≤◌, ◌<◌, IsTrue, reverse, ℕ, ◌+◌, ◌-◌, ◌/◌, ◌%◌, Bool, List, [], ◌∷◌, ◌++◌, length, map, Option, Some, None, find, option_map, unwrap_or, slice_index_or, max, ◌==◌, nat_le, nat_lt, ◌&&◌, if◌then◌else◌}
use Rattle.std.specs.List.{list_any}
use Rattle.std.specs.List.Sorted.{IsNonDecreasingBy}
use Rattle.std.specs.Option.{ForSome}
use Rattle.disc_time.specs.Counts.{most_program, most_tracks, pause_blocks, time_count}
use Rattle.disc_time.specs.Fields.{control_values}
use Rattle.disc_time.specs.Time.{frame_of}
use Rattle.cue_sheet.specs.CueSheet.{AreIndices, is_catalogue_number, is_capital_code}
use Rattle.toc_model.specs.Places.{TrackPlace, DiscLayout, no_place}
use Rattle.q_channel.specs.declared.frame.QFrame.{QFrame}
use Rattle.q_channel.specs.declared.frame.QFrame.TheVariants.{Program, Toc, Catalogue, Isrc}
use Rattle.q_channel.specs.declared.frame.TocPoint.{TocPoint}
use Rattle.q_channel.specs.declared.frame.TocPoint.TheVariants.{Track, First, Last, LeadOut}

-- how often each entry of the table of contents is repeated in a row
abbrev pub entry_copies : ℕ
entry_copies = 3

-- the entries for the whole disc: the first track number, the last one, and the lead-out
abbrev pub disc_entries : ℕ
disc_entries = 3

-- one of this many program blocks may carry the catalogue number, and one its track's ISRC
abbrev pub code_period : ℕ
code_period = 100

-- the block in each period that may carry the catalogue number
abbrev pub catalogue_turn : ℕ
catalogue_turn = 49

-- the block in each period that may carry its track's ISRC
abbrev pub isrc_turn : ℕ
isrc_turn = 99

-- the track of a block: the last one that begins at the block or before it
unfoldable pub track_at : DiscLayout → ℕ → TrackPlace
track_at layout block =
    unwrap_or (find (λ (place : TrackPlace). nat_le place.begin block) (reverse layout.tracks)) no_place

-- the number of the last index line of a track that begins at the block or before it, or 0
unfoldable pub index_at : TrackPlace → ℕ → ℕ
index_at place block = unwrap_or
    (option_map (λ (line : ℕ × ℕ). line.0)
    (find (λ (line : ℕ × ℕ). nat_le line.1 block) (reverse place.lines))) 0

-- the block at which index 01 of a track begins
unfoldable pub music_begin : TrackPlace → ℕ
music_begin place = unwrap_or
    (option_map (λ (line : ℕ × ℕ). line.1) (find (λ (line : ℕ × ℕ). line.0 == 1) place.lines)) 0

-- the time of a block since index 01 of its track began, or the time until it begins
abbrev pub time_in_track : TrackPlace → ℕ → ℕ
time_in_track place block = if nat_lt block (music_begin place) then music_begin place - block
    else block - music_begin place

-- whether a block is in the pause of a track, which is before its index 01 and at least two seconds long
abbrev pub is_paused_for : ℕ → TrackPlace → Bool
is_paused_for block place =
    nat_le (music_begin place - max pause_blocks (music_begin place - place.begin)) block
    && nat_lt block (music_begin place)

-- whether the P bit of a block is set: the block is in the pause of some track
unfoldable pub p_bit : DiscLayout → ℕ → Bool
p_bit layout block = list_any (is_paused_for block) layout.tracks

-- the frame with the time of a block
abbrev pub time_frame : TrackPlace → ℕ → QFrame
time_frame place block =
    Program place.control place.number (index_at place block) (time_in_track place block) block

-- the frame of a block that carries the catalogue number, if there is one
abbrev pub catalogue_frame : TrackPlace → ℕ → Option (List ℕ) → QFrame
catalogue_frame place block None = time_frame place block
catalogue_frame place block (Some number) = Catalogue place.control number (frame_of block)

-- the frame of a block that carries its track's ISRC, if there is one, except in the pause
abbrev pub isrc_frame : TrackPlace → ℕ → Option (List ℕ) → QFrame
isrc_frame place block None = time_frame place block
isrc_frame place block (Some code) = if index_at place block == 0 then time_frame place block
    else Isrc place.control code (frame_of block)

-- the frame of a program block: in each period one may carry the catalogue number and one the track's code
abbrev pub program_frame : DiscLayout → ℕ → QFrame
program_frame layout block =
    let place = track_at layout block in
    if block % code_period == catalogue_turn then catalogue_frame place block layout.catalogue
    else (if block % code_period == isrc_turn then isrc_frame place block place.isrc
    else time_frame place block)

-- track k of a layout, counted from 0
abbrev pub place_at : DiscLayout → ℕ → TrackPlace
place_at layout k = slice_index_or layout.tracks k no_place

-- the entries of the table of contents with their control bits: the tracks, the first and the last number, and the
-- lead-out
abbrev pub toc_entries : DiscLayout → List (ℕ × TocPoint)
toc_entries layout =
    let first = place_at layout 0 in
    let last = place_at layout (length layout.tracks - 1) in
    map (λ (place : TrackPlace). (place.control, Track place.number (music_begin place))) layout.tracks
    ++ (first.control, First first.number 0) ∷ (last.control, Last last.number) ∷
    (last.control, LeadOut layout.blocks) ∷ []

-- the frame of lead-in block l: each entry is repeated three times in a row, and then all entries again; the time of the
-- last block is 99:59:74
abbrev pub toc_frame : DiscLayout → ℕ → ℕ → QFrame
toc_frame layout lead_in l =
    let place = l / entry_copies % (length layout.tracks + disc_entries) in
    let entry = slice_index_or (toc_entries layout) place (0, First 0 0) in
    Toc entry.0 entry.1 (time_count - lead_in + l)

-- The place of a track is valid: its values are in range, and it does not begin after its music. The music begins at least
-- two seconds after the start of the disc.
pub record IsPlace (place : TrackPlace) : Type 0 where
  pub number : (1 ≤ place.number) × (place.number ≤ most_tracks)
  pub control : place.control < control_values
  pub isrc : ForSome place.isrc (λ code. IsTrue (is_capital_code code))
  pub lines : AreIndices place.lines
  pub begins : place.begin ≤ music_begin place
  pub late : pause_blocks ≤ music_begin place

-- The layout is valid: it has 1 to 99 tracks in order, the first one begins at block 0, and the music of each track begins
-- inside the disc.
pub record IsLayout (layout : DiscLayout) : Type 0 where
  pub catalogue : ForSome layout.catalogue (λ number. IsTrue (is_catalogue_number number))
  pub count : (1 ≤ length layout.tracks) × (length layout.tracks ≤ most_tracks)
  pub blocks : layout.blocks ≤ most_program
  pub first : (place_at layout 0).begin ≡ 0
  pub begins : IsNonDecreasingBy (λ (place : TrackPlace). place.begin) layout.tracks
  pub music : IsNonDecreasingBy music_begin layout.tracks
  pub within : (k : ℕ) → k < length layout.tracks → music_begin (place_at layout k) < layout.blocks
