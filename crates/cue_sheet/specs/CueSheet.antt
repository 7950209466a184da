-- The contents of a cue sheet.
use Rattle.std.specs.Prelude.{◌≡◌, ◌≢◌, ◌≤◌, ◌<◌, ◌+◌, ◌&&◌, ◌||◌, ℕ, Bool, IsTrue, List, [], length, take, drop, All, Option, None, unwrap_or, slice_index_or, ◌==◌, if◌then◌else◌, ◌-◌}
use Rattle.std.specs.Option.{ForSome}
use Rattle.std.specs.List.{list_all}
use Rattle.std.specs.Char.{is_ascii_digit, is_ascii_uppercase}
use Rattle.disc_time.specs.Counts.{most_tracks, time_count}
use Rattle.disc_time.specs.Fields.{catalogue_digits, control_values, isrc_characters}
use Rattle.text_lines.specs.Text.{most_text_bytes}
use Rattle.cue_sheet.specs.declared.fault.CueText.{CueText}
use Rattle.cue_sheet.specs.declared.fault.CueText.TheVariants.{Title, Performer, Songwriter}

-- a track: its number, its control bits, its ISRC, the lengths of its two gaps in blocks, its index lines (each a number
-- and a time in blocks), and its texts
pub record CueTrack : Type 0 where
  pub number : ℕ
  pub control : ℕ
  pub isrc : Option (List ℕ)
  pub pregap : ℕ
  pub postgap : ℕ
  pub indices : List (ℕ × ℕ)
  pub title : List ℕ
  pub performer : List ℕ
  pub songwriter : List ℕ

-- a sheet: its catalogue number, the texts of the album, and its tracks; a missing text is empty
pub record CueSheet : Type 0 where
  pub catalogue : Option (List ℕ)
  pub title : List ℕ
  pub performer : List ℕ
  pub songwriter : List ℕ
  pub tracks : List CueTrack

-- the lines of one track, or those before the first track
pub record CueSection : Type 0 where
  pub catalogue : Option (List ℕ)
  pub title : Option (List ℕ)
  pub performer : Option (List ℕ)
  pub songwriter : Option (List ℕ)
  pub control : Option ℕ
  pub isrc : Option (List ℕ)
  pub pregap : Option ℕ
  pub postgap : Option ℕ
  pub indices : List (ℕ × ℕ)

-- the track with this number and section; the defaults are control 0, gaps of 0 and empty texts
abbrev pub track_from : ℕ → CueSection → CueTrack
track_from number s = record {
  number = number;
  control = unwrap_or s.control 0;
  isrc = s.isrc;
  pregap = unwrap_or s.pregap 0;
  postgap = unwrap_or s.postgap 0;
  indices = s.indices;
  title = unwrap_or s.title [];
  performer = unwrap_or s.performer [];
  songwriter = unwrap_or s.songwriter [];
}

-- the sheet with this section before its first track and these tracks; a missing text is empty
abbrev pub sheet_from : CueSection → List CueTrack → CueSheet
sheet_from s tracks = record {
  catalogue = s.catalogue;
  title = unwrap_or s.title [];
  performer = unwrap_or s.performer [];
  songwriter = unwrap_or s.songwriter [];
  tracks = tracks;
}

-- the default for a place without a track
abbrev pub no_track : CueTrack
no_track = record {
  number = 0;
  control = 0;
  isrc = None;
  pregap = 0;
  postgap = 0;
  indices = [];
  title = [];
  performer = [];
  songwriter = [];
}

-- track k of a sheet, counted from 0
abbrev pub track_of : CueSheet → ℕ → CueTrack
track_of sheet k = slice_index_or sheet.tracks k no_track

-- index line j of a track: its number and its file time in blocks
abbrev pub index_line_of : CueTrack → ℕ → ℕ × ℕ
index_line_of track j = slice_index_or track.indices j (0, 0)

-- the album's text of a kind
abbrev pub album_text : CueText → CueSheet → List ℕ
album_text Title sheet = sheet.title
album_text Performer sheet = sheet.performer
album_text Songwriter sheet = sheet.songwriter

-- a track's text of a kind
abbrev pub track_text : CueText → CueTrack → List ℕ
track_text Title track = track.title
track_text Performer track = track.performer
track_text Songwriter track = track.songwriter

-- the texts of a sheet: at place 0 those of the album, at place k + 1 those of track k
abbrev pub text_at : CueText → CueSheet → ℕ → List ℕ
text_at kind sheet place = if place == 0 then album_text kind sheet
    else track_text kind (track_of sheet (place - 1))

-- The text has no byte below 20 hexadecimal and no byte 7F, and is at most as long as a sheet may be.
pub record IsText (s : List ℕ) : Type 0 where
  pub short : length s ≤ most_text_bytes
  pub plain : All (λ b. (32 ≤ b) × (b ≢ 127)) s

-- whether a text is a catalogue number: thirteen digits
abbrev pub is_catalogue_number : List ℕ → Bool
is_catalogue_number s = length s == catalogue_digits && list_all is_ascii_digit s

-- whether a text is an ISRC: two letters, three letters or digits, and seven digits, with capital letters
abbrev pub is_capital_code : List ℕ → Bool
is_capital_code s =
    length s == isrc_characters && list_all is_ascii_uppercase (take 2 s)
    && list_all (λ c. is_ascii_digit c || is_ascii_uppercase c) (take 3 (drop 2 s))
    && list_all is_ascii_digit (drop 5 s)

-- The index lines of a track are in order: their numbers go up by one from 0 or 1 and include 1, and their times do not
-- fall.
pub record AreIndices (indices : List (ℕ × ℕ)) : Type 0 where
  pub first : (slice_index_or indices 0 (0, 0)).0 ≤ 1
  pub has_one : 1 < (slice_index_or indices 0 (0, 0)).0 + length indices
  pub next : (j : ℕ) → j < length indices
      → (slice_index_or indices j (0, 0)).0 ≡ (slice_index_or indices 0 (0, 0)).0 + j
  pub numbers : (j : ℕ) → j < length indices → (slice_index_or indices j (0, 0)).0 ≤ 99
  pub times : (j : ℕ) → j < length indices → (slice_index_or indices j (0, 0)).1 < time_count
  pub order : (i j : ℕ) → i ≤ j → j < length indices
      → (slice_index_or indices i (0, 0)).1 ≤ (slice_index_or indices j (0, 0)).1

-- The track is valid: its number is from 1 to 99, its control has four bits, its gaps are below 100 minutes, its index
-- lines are in order, and its ISRC and its texts are valid.
pub record IsTrack (track : CueTrack) : Type 0 where
  pub number : (1 ≤ track.number) × (track.number ≤ most_tracks)
  pub control : track.control < control_values
  pub isrc : ForSome track.isrc (λ code. IsTrue (is_capital_code code))
  pub gaps : (track.pregap < time_count) × (track.postgap < time_count)
  pub indices : AreIndices track.indices
  pub title : IsText track.title
  pub performer : IsText track.performer
  pub songwriter : IsText track.songwriter

-- The sheet is valid: it has 1 to 99 tracks, whose numbers go up by one. The times of a track are not below those of the
-- tracks before it.
pub record IsSheet (sheet : CueSheet) : Type 0 where
  pub catalogue : ForSome sheet.catalogue (λ number. IsTrue (is_catalogue_number number))
  pub title : IsText sheet.title
  pub performer : IsText sheet.performer
  pub songwriter : IsText sheet.songwriter
  pub count : (1 ≤ length sheet.tracks) × (length sheet.tracks ≤ most_tracks)
  pub tracks : (k : ℕ) → k < length sheet.tracks → IsTrack (track_of sheet k)
  pub next : (k : ℕ) → k < length sheet.tracks → (track_of sheet k).number ≡ (track_of sheet 0).number + k
  pub order : (j k i : ℕ) → j < k → k < length sheet.tracks → i < length (track_of sheet j).indices
      → (index_line_of (track_of sheet j) i).1 ≤ (index_line_of (track_of sheet k) 0).1
