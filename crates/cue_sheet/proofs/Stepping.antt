-- A step searches a reason to refuse the line, and otherwise changes the state.
use Rattle.std.proofs.Common.{◌≡◌, ℕ, ◌≤◌, ◌<◌, List, length, Bool, true, false, Option, Some, None, refl, ap, sym, ◌∙◌, arith}
use Rattle.std.specs.Prelude.{Result, Ok, Err, is_some, not, max, nat_lt, if◌then◌else◌}
use Rattle.cue_sheet.specs.CueSheet.{CueSheet}
use Rattle.text_lines.specs.Text.{trimmed, first_word, argument_of, is_some_bytes}
use Rattle.cue_sheet.specs.CueLines.{command_named, said_by, CueLine, SaysNothing, SaysCatalogue, SaysFile, SaysTitle, SaysPerformer, SaysSongwriter, SaysTrack, SaysFlags, SaysIsrc, SaysPregap, SaysIndex, SaysPostgap}
use Rattle.cue_sheet.specs.Grammar.{CueState, has_index_one, lacks_index, follows_number, follows_index, begun, with_index, once, taken, is_second_file, is_placed, spelled_line, obeyed, sheet_step, ended}
use Rattle.cue_sheet.specs.Steps.{line_said, is_repeated, after, later_sheet_reason, unless, end_reason, sheet_said}
use Rattle.cue_sheet.specs.declared.command.SheetCommand.{SheetCommand}
use Rattle.cue_sheet.specs.declared.command.SheetLine.{SheetLine}
use Rattle.cue_sheet.specs.declared.command.SheetLine.TheVariants.{Remark, Catalogue, File, Title, Performer, Songwriter, Track, Flags, Isrc, Pregap, Index, Postgap}
use Rattle.cue_sheet.specs.declared.fault.CueWhy.{CueWhy}
use Rattle.cue_sheet.specs.declared.fault.CueWhy.TheVariants.{SecondFile, Misplaced, Repeated, NoIndex, NotAudio, NumberOrder, IndexOrder, TimeOrder, NoFile, NoTrack}

once_is : {X : Type 0} (o : Option X) (next : CueState)
    → once o next ≡ unless next (if is_some o then Some Repeated else None)
once_is None next = refl
once_is (Some x) next = refl

track_is : (lacks audio follows : Bool) (next : CueState)
    → (if lacks
    then Err NoIndex
    else (if not audio then Err NotAudio else (if follows then Ok next else Err NumberOrder)))
    ≡ unless next (if lacks
    then Some NoIndex
    else (if not audio then Some NotAudio else (if follows then None else Some NumberOrder)))
track_is true audio follows next = refl
track_is false false follows next = refl
track_is false true true next = refl
track_is false true false next = refl

index_is : (follows early : Bool) (next other : CueState) → (early ≡ false → next ≡ other)
    → (if not follows then Err IndexOrder else (if early then Err TimeOrder else Ok next))
    ≡ unless other (if follows then (if early then Some TimeOrder else None) else Some IndexOrder)
index_is true true next other same = refl
index_is true false next other same = ap Ok (same refl)
index_is false early next other same = refl

latest_is : (time latest : ℕ) → nat_lt time latest ≡ false → time ≡ max time latest
latest_is time latest free = let late : latest ≤ time = grind (arith, free) in omega arith

-- the state after a line, unless there is a reason against it
pub taken_is : (s : CueState) (line : CueLine)
    → taken s line ≡ unless (after s line) (later_sheet_reason s line)
unfolding taken later_sheet_reason
taken_is s SaysNothing = refl
taken_is s SaysFile = refl
taken_is s (SaysCatalogue t) = once_is s.section.catalogue _
taken_is s (SaysTitle t) = once_is s.section.title _
taken_is s (SaysPerformer t) = once_is s.section.performer _
taken_is s (SaysSongwriter t) = once_is s.section.songwriter _
taken_is s (SaysFlags n) = once_is s.section.control _
taken_is s (SaysIsrc t) = once_is s.section.isrc _
taken_is s (SaysPregap n) = once_is s.section.pregap _
taken_is s (SaysPostgap n) = once_is s.section.postgap _
taken_is s (SaysTrack number audio) =
    track_is (lacks_index s) audio (follows_number s.number number) (begun s number)
taken_is s (SaysIndex number time) =
    index_is (follows_index s.section.indices number) (nat_lt time s.latest) _
    (after s (SaysIndex number time))
    (λ free. ap (λ n. record (with_index s number time) { latest = n }) (latest_is time s.latest free))

end_is : (file some one : Bool) (sheet : CueSheet)
    → (if not file
    then Err NoFile
    else (if not some then Err NoTrack else (if not one then Err NoIndex else Ok sheet)))
    ≡ unless sheet (if not file
    then Some NoFile
    else (if not some then Some NoTrack else (if one then None else Some NoIndex)))
end_is false some one sheet = refl
end_is true false one sheet = refl
end_is true true false sheet = refl
end_is true true true sheet = refl

pub ended_is : (s : CueState) → ended s ≡ unless (sheet_said s) (end_reason s)
ended_is s = end_is s.has_file (is_some s.number) (has_index_one s.section) (sheet_said s)

passed_is : (second placed : Bool) (answer : Result CueState CueWhy) → second ≡ false → placed ≡ true
    → (if second then Err SecondFile else (if not placed then Err Misplaced else answer)) ≡ answer
passed_is false true answer first here = refl
passed_is false false answer first here = cc
passed_is true placed answer first here = cc

-- a command in the right place with a valid argument: its line is accepted, unless there is a reason against it
pub obeyed_is : (s : CueState) (word : Option SheetCommand) (command : SheetCommand) (argument : List ℕ)
    (line : CueLine) (reason : Option CueWhy)
    → word ≡ Some command → is_second_file s command ≡ false → is_placed s command ≡ true
    → said_by command argument ≡ Some line → later_sheet_reason s line ≡ reason
    → obeyed s word argument ≡ unless (after s line) reason
obeyed_is s word command argument line reason named first here said is =
    ap (λ w. obeyed s w argument) named
    ∙ (passed_is (is_second_file s command) (is_placed s command) (spelled_line s (said_by command argument))
    first here
    ∙ (ap (spelled_line s) said ∙ (taken_is s line ∙ ap (unless (after s line)) is)))

some_is : (s : CueState) (line : List ℕ) → 0 < length line
    → (if is_some_bytes line then obeyed s (command_named (first_word line)) (argument_of line) else Ok s)
    ≡ obeyed s (command_named (first_word line)) (argument_of line)
some_is s line some =
    let is : is_some_bytes line ≡ true = grind arith in
    ap (λ b. if b then obeyed s (command_named (first_word line)) (argument_of line) else Ok s) is

-- a line that is not empty consists of its command and its argument
pub step_is : (s : CueState) (line rest : List ℕ) → rest ≡ trimmed line → 0 < length rest
    → sheet_step s line ≡ obeyed s (command_named (first_word rest)) (argument_of rest)
step_is s line rest is some =
    ap (λ l. if is_some_bytes l then obeyed s (command_named (first_word l)) (argument_of l) else Ok s)
    (sym is)
    ∙ some_is s rest some

-- a line that is neither a track nor an index line is refused only if its section already has one
pub once_reason : (said : CueState) (line : SheetLine) (again : Bool)
    → ((number : ℕ) (audio : Bool) → line ≡ Track number audio → ⊥)
    → ((number time : ℕ) → line ≡ Index number time → ⊥)
    → again ≡ is_repeated said.section (line_said line)
    → (if again then Some Repeated else None) ≡ later_sheet_reason said (line_said line)
unfolding later_sheet_reason
once_reason said Remark again no_track no_index is = ap (λ b. if b then Some Repeated else None) is
once_reason said (Catalogue digits) again no_track no_index is =
    ap (λ b. if b then Some Repeated else None) is
once_reason said File again no_track no_index is = ap (λ b. if b then Some Repeated else None) is
once_reason said (Title s) again no_track no_index is = ap (λ b. if b then Some Repeated else None) is
once_reason said (Performer s) again no_track no_index is = ap (λ b. if b then Some Repeated else None) is
once_reason said (Songwriter s) again no_track no_index is = ap (λ b. if b then Some Repeated else None) is
once_reason said (Flags control) again no_track no_index is = ap (λ b. if b then Some Repeated else None) is
once_reason said (Isrc code) again no_track no_index is = ap (λ b. if b then Some Repeated else None) is
once_reason said (Pregap time) again no_track no_index is = ap (λ b. if b then Some Repeated else None) is
once_reason said (Postgap time) again no_track no_index is = ap (λ b. if b then Some Repeated else None) is
once_reason said (Track number audio) again no_track no_index is = absurd (no_track number audio refl)
once_reason said (Index number time) again no_track no_index is = absurd (no_index number time refl)
