-- The two steps of the code for each line: it looks for a reason to refuse the line, and then adds it.
use Rattle.std.specs.Prelude.{◌≡◌, Result, Ok, Err, ℕ, List, ◌++◌, max, Bool, false, not, Option, Some, None, is_some, true, nat_lt, if◌then◌else◌}
use Rattle.cue_sheet.specs.CueSheet.{CueSheet, CueSection, sheet_from}
use Rattle.cue_sheet.specs.CueLines.{CueLine, SaysNothing, SaysCatalogue, SaysFile, SaysTitle, SaysPerformer, SaysSongwriter, SaysTrack, SaysFlags, SaysIsrc, SaysPregap, SaysIndex, SaysPostgap, IsLineInRange}
use Rattle.cue_sheet.specs.Grammar.{CueState, has_index_one, lacks_index, follows_number, follows_index, track_with, begun, with_index, in_section, obeyed, sheet_step}
use Rattle.cue_sheet.specs.declared.command.SheetCommand.{SheetCommand}
use Rattle.cue_sheet.specs.declared.fault.CueWhy.{CueWhy}
use Rattle.cue_sheet.specs.declared.fault.CueWhy.TheVariants.{Repeated, NoIndex, NotAudio, NumberOrder, IndexOrder, TimeOrder, NoFile, NoTrack}
use Rattle.cue_sheet.specs.declared.command.SheetLine.{SheetLine}
use Rattle.cue_sheet.specs.declared.command.SheetLine.TheVariants.{Remark, Catalogue, File, Title, Performer, Songwriter, Track, Flags, Isrc, Pregap, Index, Postgap}

-- the contents of a line, without the addresses of its texts
abbrev pub line_said : SheetLine → CueLine
line_said Remark = SaysNothing
line_said (Catalogue digits) = SaysCatalogue digits
line_said File = SaysFile
line_said (Title s) = SaysTitle s.now
line_said (Performer s) = SaysPerformer s.now
line_said (Songwriter s) = SaysSongwriter s.now
line_said (Track number audio) = SaysTrack number audio
line_said (Flags control) = SaysFlags control
line_said (Isrc code) = SaysIsrc code
line_said (Pregap time) = SaysPregap time
line_said (Index number time) = SaysIndex number time
line_said (Postgap time) = SaysPostgap time

-- whether a line that is allowed once in a section is there already
abbrev pub is_repeated : CueSection → CueLine → Bool
is_repeated s (SaysCatalogue _) = is_some s.catalogue
is_repeated s (SaysTitle _) = is_some s.title
is_repeated s (SaysPerformer _) = is_some s.performer
is_repeated s (SaysSongwriter _) = is_some s.songwriter
is_repeated s (SaysFlags _) = is_some s.control
is_repeated s (SaysIsrc _) = is_some s.isrc
is_repeated s (SaysPregap _) = is_some s.pregap
is_repeated s (SaysPostgap _) = is_some s.postgap
is_repeated s _ = false

-- the reason to refuse a line with a valid argument at an allowed place
unfoldable pub later_sheet_reason : CueState → CueLine → Option CueWhy
later_sheet_reason s (SaysTrack number audio) =
    if lacks_index s then Some NoIndex
    else (if not audio then Some NotAudio
    else (if follows_number s.number number then None else Some NumberOrder))
later_sheet_reason s (SaysIndex number time) =
    if follows_index s.section.indices number then (if nat_lt time s.latest then Some TimeOrder else None)
    else Some IndexOrder
later_sheet_reason s line = if is_repeated s.section line then Some Repeated else None

-- the state after one more line, if it is not refused
abbrev pub after : CueState → CueLine → CueState
after s SaysNothing = s
after s SaysFile = record s { has_file = true }
after s (SaysCatalogue t) = in_section s (record s.section { catalogue = Some t })
after s (SaysTitle t) = in_section s (record s.section { title = Some t })
after s (SaysPerformer t) = in_section s (record s.section { performer = Some t })
after s (SaysSongwriter t) = in_section s (record s.section { songwriter = Some t })
after s (SaysFlags n) = in_section s (record s.section { control = Some n })
after s (SaysIsrc t) = in_section s (record s.section { isrc = Some t })
after s (SaysPregap n) = in_section s (record s.section { pregap = Some n })
after s (SaysPostgap n) = in_section s (record s.section { postgap = Some n })
after s (SaysIndex number time) = record (with_index s number time) { latest = max time s.latest }
after s (SaysTrack number audio) = begun s number

-- the part of the state that a draft keeps: all but the file and the latest time
abbrev pub stripped : CueState → CueState
stripped s = record s { has_file = false; latest = 0 }

-- a value, or the reason why there is none
abbrev pub unless : {X : Type 0} → X → Option CueWhy → Result X CueWhy
unless x None = Ok x
unless x (Some why) = Err why

-- the reason to refuse the end of the sheet
abbrev pub end_reason : CueState → Option CueWhy
end_reason s =
    if not s.has_file then Some NoFile
    else (if not (is_some s.number) then Some NoTrack
    else (if has_index_one s.section then None else Some NoIndex))

-- the sheet of all lines
abbrev pub sheet_said : CueState → CueSheet
sheet_said s = sheet_from s.album (s.tracks ++ track_with s.number s.section)

-- The check of a line has this result: the line, which is in range and accepted, or the first reason to refuse it.
abbrev pub IsCheckedLine : CueState → Option SheetCommand → List ℕ → Result SheetLine CueWhy → Type 0
IsCheckedLine s command argument (Ok line) = (obeyed s command argument ≡ Ok (after s (line_said line)))
    × IsLineInRange (line_said line) × (later_sheet_reason s (line_said line) ≡ None)
IsCheckedLine s command argument (Err why) = obeyed s command argument ≡ Err why

-- The line of text is accepted in the state `old`, and `new` is the state after it.
pub data TakesLine (old : CueState) (line : List ℕ) (new : CueState) : Type 0 where
  IsEmpty : sheet_step old line ≡ Ok new → new ≡ old → TakesLine old line new
  Says : (line_said : CueLine) → sheet_step old line ≡ Ok new → IsLineInRange line_said
      → later_sheet_reason old line_said ≡ None → new ≡ after old line_said → TakesLine old line new
