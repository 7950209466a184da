-- The texts of a cue sheet.
use Rattle.std.specs.Prelude.{◌≡◌, ℕ, All, ◌+◌, ◌-◌, List, [], length, map, replicate, unwrap_or, ◌==◌, if◌then◌else◌}
use Rattle.bit_lists.specs.Counting.{below}
use Rattle.cue_sheet.specs.CueSheet.{CueSheet, track_of, text_at}
use Rattle.cue_sheet.specs.declared.fault.CueText.TheVariants.{Title, Performer, Songwriter}
use Rattle.cdtext_packs.specs.Texts.{IsString, Texts, unless_empty}
use Rattle.cdtext_packs.specs.declared.kinds.TextKind.{TextKind}
use Rattle.cdtext_packs.specs.declared.kinds.TextKind.TheVariants as kind

-- a string for the album and for each track, in order
abbrev pub for_each : CueSheet → (ℕ → List ℕ) → List (List ℕ)
for_each sheet string = map string (below (length sheet.tracks + 1))

-- the catalogue number for the album, and a track's ISRC, each empty if there is none
abbrev pub code_at : CueSheet → ℕ → List ℕ
code_at sheet place = if place == 0 then unwrap_or sheet.catalogue []
    else unwrap_or (track_of sheet (place - 1)).isrc []

-- the string of a kind for the album or a track, empty if there is none
abbrev pub string_at : TextKind → CueSheet → ℕ → List ℕ
string_at kind.Title sheet place = text_at Title sheet place
string_at kind.Performer sheet place = text_at Performer sheet place
string_at kind.Songwriter sheet place = text_at Songwriter sheet place
string_at kind.Composer sheet place = []
string_at kind.Arranger sheet place = []
string_at kind.Message sheet place = []
string_at kind.Code sheet place = code_at sheet place

-- These are the strings of a kind for the album and each track.
pub record AreStringsOf (sheet : CueSheet) (kind : TextKind) (strings : List (List ℕ)) : Type 0 where
  pub strings_are : strings ≡ for_each sheet (string_at kind sheet)
  pub count_is : length strings ≡ length sheet.tracks + 1
  pub each : All IsString strings

-- the texts of a sheet, maybe with only empty strings
abbrev pub sheet_texts : CueSheet → Texts
sheet_texts sheet =
    let none = replicate (length sheet.tracks + 1) [] in
    record {
      first = (track_of sheet 0).number;
      last = (track_of sheet (length sheet.tracks - 1)).number;
      title = for_each sheet (text_at Title sheet);
      performer = for_each sheet (text_at Performer sheet);
      songwriter = for_each sheet (text_at Songwriter sheet);
      composer = none;
      arranger = none;
      message = none;
      code = for_each sheet (code_at sheet);
    }

-- the texts of a sheet: no texts at all if every string is empty
abbrev pub texts_of_sheet : CueSheet → Texts
texts_of_sheet sheet = unless_empty (sheet_texts sheet)
