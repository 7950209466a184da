-- The contents of the structs of a sheet, without addresses.
use Rattle.std.specs.Prelude.{ℕ, List, [], map, unwrap_or}
use Rattle.std.specs.Option.{option_map}
use Rattle.cue_sheet.specs.CueSheet.{CueTrack, CueSheet, CueSection, track_from, sheet_from}
use Rattle.cue_sheet.specs.declared.fault.CueText.{CueText}
use Rattle.cue_sheet.specs.declared.fault.CueText.TheVariants.{Title, Performer, Songwriter}
use Rattle.cue_sheet.specs.declared.reader.Section.{Section}
use Rattle.cue_sheet.specs.declared.reader.Track.{Track}

-- the contents of a section
abbrev pub section_of : Section → CueSection
section_of s = record {
  catalogue = s.catalogue;
  title = option_map (λ v. v.items) s.title;
  performer = option_map (λ v. v.items) s.performer;
  songwriter = option_map (λ v. v.items) s.songwriter;
  control = s.control;
  isrc = s.isrc;
  pregap = s.pregap;
  postgap = s.postgap;
  indices = s.indices.items;
}

-- the contents of a track
abbrev pub track_value : Track → CueTrack
track_value t = track_from t.number (section_of t.section)

-- the sheet of an album and its tracks
abbrev pub sheet_value : Section → List Track → CueSheet
sheet_value album tracks = sheet_from (section_of album) (map track_value tracks)

-- the text of a kind in a section, empty if there is none
abbrev pub section_text : CueText → CueSection → List ℕ
section_text Title s = unwrap_or s.title []
section_text Performer s = unwrap_or s.performer []
section_text Songwriter s = unwrap_or s.songwriter []
