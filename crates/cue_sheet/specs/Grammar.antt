-- The lines of a cue sheet in order: the state after each line, or the reason to refuse it.
use Rattle.std.specs.Prelude.{ℕ, ◌+◌, ◌-◌, Bool, true, false, not, ◌&&◌, List, [], ◌∷◌, ◌++◌, length, Option, Some, None, Result, Ok, Err, ◌==◌, nat_le, nat_lt, is_some, if◌then◌else◌, slice_index_or}
use Rattle.std.specs.List.{list_any}
use Rattle.text_lines.specs.Text.{lines_of, trimmed, first_word, argument_of, is_some_bytes}
use Rattle.text_lines.specs.Reading.{read_on}
use Rattle.cue_sheet.specs.CueSheet.{CueTrack, CueSheet, CueSection, track_from, sheet_from}
use Rattle.cue_sheet.specs.CueLines.{CueLine, SaysNothing, SaysCatalogue, SaysFile, SaysTitle, SaysPerformer, SaysSongwriter, SaysTrack, SaysFlags, SaysIsrc, SaysPregap, SaysIndex, SaysPostgap, command_named, said_by}
use Rattle.cue_sheet.specs.declared.command.SheetCommand.{SheetCommand}
use Rattle.cue_sheet.specs.declared.command.SheetCommand.TheVariants.{Catalogue, File, Track, Flags, Isrc, Pregap, Index, Postgap}
use Rattle.cue_sheet.specs.declared.fault.CueWhy.{CueWhy}
use Rattle.cue_sheet.specs.declared.fault.CueWhy.TheVariants.{UnknownCommand, SecondFile, Misplaced, BadArgument, Repeated, NoIndex, NotAudio, NumberOrder, IndexOrder, TimeOrder, NoFile, NoTrack}

-- the state after some lines: whether there is a file, the latest index time, the album, the tracks before the last
-- one, and the number and section of the last one; before the first track the section belongs to the album
pub record CueState : Type 0 where
  pub has_file : Bool
  pub latest : ℕ
  pub album : CueSection
  pub tracks : List CueTrack
  pub number : Option ℕ
  pub section : CueSection

-- a section without lines
abbrev pub no_section : CueSection
no_section = record {
  catalogue = None;
  title = None;
  performer = None;
  songwriter = None;
  control = None;
  isrc = None;
  pregap = None;
  postgap = None;
  indices = [];
}

-- the state before the first line
abbrev pub nothing_said : CueState
nothing_said = record {
  has_file = false;
  latest = 0;
  album = no_section;
  tracks = [];
  number = None;
  section = no_section;
}

-- whether an index line has the number 1
abbrev pub has_index_one : CueSection → Bool
has_index_one s = list_any (λ (line : ℕ × ℕ). line.0 == 1) s.indices

-- whether a command is a second FILE
abbrev pub is_second_file : CueState → SheetCommand → Bool
is_second_file s File = s.has_file
is_second_file s _ = false

-- whether a command is allowed at this place
abbrev pub is_placed : CueState → SheetCommand → Bool
is_placed s Catalogue = not (is_some s.number)
is_placed s Track = s.has_file
is_placed s Flags = is_some s.number
is_placed s Isrc = is_some s.number
is_placed s Pregap = is_some s.number && length s.section.indices == 0
is_placed s Index = is_some s.number && not (is_some s.section.postgap)
is_placed s Postgap = is_some s.number && has_index_one s.section
is_placed s _ = true

-- whether the last track has no index 01
abbrev pub lacks_index : CueState → Bool
lacks_index s = is_some s.number && not (has_index_one s.section)

-- whether a track's number is one more than the number of the previous track
abbrev pub follows_number : Option ℕ → ℕ → Bool
follows_number None number = true
follows_number (Some last) number = number == last + 1

-- whether an index line's number is one more than the previous number; the first number is 0 or 1
abbrev pub follows_index : List (ℕ × ℕ) → ℕ → Bool
follows_index lines number =
    if length lines == 0 then nat_le number 1
    else number == (slice_index_or lines (length lines - 1) (0, 0)).0 + 1

-- the track with this number and section, if there is a number
abbrev pub track_with : Option ℕ → CueSection → List CueTrack
track_with None section = []
track_with (Some number) section = track_from number section ∷ []

-- the state after a track with this number begins; the section before it belongs to the album, or to the previous track
abbrev pub begun : CueState → ℕ → CueState
begun s number = record s {
  album = if is_some s.number then s.album else s.section;
  tracks = s.tracks ++ track_with s.number s.section;
  number = Some number;
  section = no_section;
}

-- the state with this as its current section
abbrev pub in_section : CueState → CueSection → CueState
in_section s section = record s { section = section }

-- the state after a line that is allowed once: it is refused if the section already has one
abbrev pub once : {X : Type 0} → Option X → CueState → Result CueState CueWhy
once None next = Ok next
once (Some _) next = Err Repeated

-- the state with one more index line
abbrev pub with_index : CueState → ℕ → ℕ → CueState
with_index s number time =
    in_section s (record s.section { indices = s.section.indices ++ (number, time) ∷ [] })

-- the state after a line with a valid argument at an allowed place, or the first reason to refuse it
unfoldable pub taken : CueState → CueLine → Result CueState CueWhy
taken s SaysNothing = Ok s
taken s SaysFile = Ok (record s { has_file = true })
taken s (SaysCatalogue t) = once s.section.catalogue (in_section s (record s.section { catalogue = Some t }))
taken s (SaysTitle t) = once s.section.title (in_section s (record s.section { title = Some t }))
taken s (SaysPerformer t) = once s.section.performer (in_section s (record s.section { performer = Some t }))
taken s (SaysSongwriter t) =
    once s.section.songwriter (in_section s (record s.section { songwriter = Some t }))
taken s (SaysFlags n) = once s.section.control (in_section s (record s.section { control = Some n }))
taken s (SaysIsrc t) = once s.section.isrc (in_section s (record s.section { isrc = Some t }))
taken s (SaysPregap n) = once s.section.pregap (in_section s (record s.section { pregap = Some n }))
taken s (SaysPostgap n) = once s.section.postgap (in_section s (record s.section { postgap = Some n }))
taken s (SaysTrack number audio) =
    if lacks_index s then Err NoIndex
    else (if not audio then Err NotAudio
    else (if follows_number s.number number then Ok (begun s number) else Err NumberOrder))
taken s (SaysIndex number time) =
    if not (follows_index s.section.indices number) then Err IndexOrder
    else (if nat_lt time s.latest then Err TimeOrder
    else Ok (record (with_index s number time) { latest = time }))

-- the state after a line at an allowed place, if its argument is valid
abbrev pub spelled_line : CueState → Option CueLine → Result CueState CueWhy
spelled_line s None = Err BadArgument
spelled_line s (Some line) = taken s line

-- the state after a command, if it is one, and its argument, or the first reason to refuse them
abbrev pub obeyed : CueState → Option SheetCommand → List ℕ → Result CueState CueWhy
obeyed s None argument = Err UnknownCommand
obeyed s (Some command) argument =
    if is_second_file s command then Err SecondFile
    else (if not (is_placed s command) then Err Misplaced
    else spelled_line s (said_by command argument))

-- the state after a line of the text, or the first reason to refuse it; an empty line changes nothing
abbrev pub sheet_step : CueState → List ℕ → Result CueState CueWhy
sheet_step s line =
    if is_some_bytes (trimmed line)
    then obeyed s (command_named (first_word (trimmed line))) (argument_of (trimmed line)) else Ok s

-- the sheet at the end, or the reason to refuse the end
abbrev pub ended : CueState → Result CueSheet CueWhy
ended s =
    if not s.has_file then Err NoFile
    else (if not (is_some s.number) then Err NoTrack
    else (if not (has_index_one s.section) then Err NoIndex
    else Ok (sheet_from s.album (s.tracks ++ track_with s.number s.section))))

-- the sheet of a text, or its first refused line with the first reason
abbrev pub read_cue : List ℕ → Result CueSheet (ℕ × CueWhy)
read_cue text = read_on sheet_step ended 1 nothing_said (lines_of text)
