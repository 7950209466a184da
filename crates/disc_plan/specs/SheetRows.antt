-- A cue sheet as rows.
use Rattle.std.specs.Prelude.{◌≡◌, ◌<◌, ◌≤◌, ◌++◌, ℕ, List, map, drop, length, replicate, Option, Some, None, Ok, Err}
use Rattle.std.specs.List.{flat_map}
use Rattle.text_lines.specs.Text.{most_text_bytes}
use Rattle.cue_sheet.specs.CueSheet.{CueSheet, CueTrack, text_at}
use Rattle.cue_sheet.specs.Grammar.{read_cue}
use Rattle.cue_sheet.specs.declared.fault.CueText.{CueText}
use Rattle.cue_sheet.specs.declared.fault.CueWhy.{CueWhy}
use Rattle.disc_plan.specs.Reports.{cue_number}
use Rattle.disc_plan.specs.declared.index_rows.SheetRow.{SheetRow}
use Rattle.disc_plan.specs.declared.reports.SheetReport.{SheetReport}
use Rattle.disc_plan.specs.declared.stops.SheetStop.{SheetStop}
use Rattle.disc_plan.specs.declared.stops.SheetStop.TheVariants.{TooLong, Fault, NoRoom, NoMemory}
use Rattle.disc_plan.specs.declared.stops.TextStop.{TextStop}
use Rattle.disc_plan.specs.declared.stops.TextStop.TheVariants.{TooLong as text_too_long, Fault as text_fault, NoTrack, NoRoom as no_room_for, NoMemory as no_memory_for}

-- an ISRC, or zeros if there is none
abbrev pub or_zeros : ℕ → Option (List ℕ) → List ℕ
or_zeros size (Some code) = code
or_zeros size None = replicate size 0

-- 1 if there is an ISRC, otherwise 0
abbrev pub flag_of : Option (List ℕ) → ℕ
flag_of (Some code) = 1
flag_of None = 0

-- the row of an index line of a track; the line is its number and its time
abbrev pub sheet_row : CueTrack → ℕ × ℕ → SheetRow
sheet_row track line = record {
  time = line.1;
  pregap = track.pregap;
  postgap = track.postgap;
  track = track.number;
  index = line.0;
  control = track.control;
  has_isrc = flag_of track.isrc;
  isrc = or_zeros 12 track.isrc;
}

-- the rows of a track, in the order of its index lines
abbrev pub track_rows : CueTrack → List SheetRow
track_rows track = map (sheet_row track) track.indices

-- the rows of a sheet, in the order of its tracks
abbrev pub sheet_rows : CueSheet → List SheetRow
sheet_rows sheet = flat_map track_rows sheet.tracks

-- the counts of a sheet
abbrev pub sheet_report : CueSheet → SheetReport
sheet_report sheet = record {
  rows = length (sheet_rows sheet);
  tracks = length sheet.tracks;
  line = 0;
  why = 0;
  has_catalogue = flag_of sheet.catalogue;
  catalogue = or_zeros 13 sheet.catalogue;
}

-- the result for a refused sheet: the refused line and the number of the reason
abbrev pub refusal_report : ℕ → CueWhy → SheetReport
refusal_report line why = record {
  rows = 0;
  tracks = 0;
  line = line;
  why = cue_number why;
  has_catalogue = 0;
  catalogue = replicate 13 0;
}

-- The text is not too long, and this is its sheet.
abbrev pub IsTextOfSheet : List ℕ → CueSheet → Type 0
IsTextOfSheet text sheet = (length text ≤ most_text_bytes) × (read_cue text ≡ Ok sheet)

-- The rows of the sheet are at the front of the new rows, and these are its counts.
abbrev pub AreRowsOf : List ℕ → List SheetRow → List SheetRow → SheetReport → Type 0
AreRowsOf text old new report = (sheet : CueSheet) × IsTextOfSheet text sheet × (report ≡ sheet_report sheet)
    × (new ≡ sheet_rows sheet ++ drop (length (sheet_rows sheet)) old)

-- This is the reason why a sheet has no rows in this room. `NoMemory` is possible only if the text has a sheet.
abbrev pub IsRowsStop : List ℕ → ℕ → SheetStop → Type 0
IsRowsStop text room TooLong = most_text_bytes < length text
IsRowsStop text room (Fault line why) = (length text ≤ most_text_bytes) × (read_cue text ≡ Err (line, why))
IsRowsStop text room (NoRoom report) = (sheet : CueSheet) × IsTextOfSheet text sheet
    × (report ≡ sheet_report sheet) × (room < length (sheet_rows sheet))
IsRowsStop text room NoMemory = (sheet : CueSheet) × IsTextOfSheet text sheet

-- A text of the sheet is at the front of the new bytes, with this length.
abbrev pub IsTextOf : CueText → ℕ → List ℕ → List ℕ → List ℕ → ℕ → Type 0
IsTextOf kind place text old new bytes = (sheet : CueSheet) × IsTextOfSheet text sheet
    × (place ≤ length sheet.tracks) × (bytes ≡ length (text_at kind sheet place))
    × (new ≡ text_at kind sheet place ++ drop (length (text_at kind sheet place)) old)

-- This is the reason why a sheet has no text at a place in this room.
abbrev pub IsTextStop : CueText → ℕ → List ℕ → ℕ → TextStop → Type 0
IsTextStop kind place text room text_too_long = most_text_bytes < length text
IsTextStop kind place text room (text_fault line why) =
    (length text ≤ most_text_bytes) × (read_cue text ≡ Err (line, why))
IsTextStop kind place text room NoTrack = (sheet : CueSheet) × IsTextOfSheet text sheet
    × (length sheet.tracks < place)
IsTextStop kind place text room (no_room_for bytes) = (sheet : CueSheet) × IsTextOfSheet text sheet
    × (place ≤ length sheet.tracks) × (bytes ≡ length (text_at kind sheet place)) × (room < bytes)
IsTextStop kind place text room no_memory_for = (sheet : CueSheet) × IsTextOfSheet text sheet
