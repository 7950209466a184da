-- The status and the output of `author` for a cue sheet and a picture script.
use Rattle.std.specs.Prelude.{◌≡◌, ◌≢◌, ℕ, ◌+◌, ◌<◌, ◌≤◌, ⊤, List, [], length, Result, Ok, Err, IfErr, IfSome, OnOk}
use Rattle.std.specs.Io.KnownBytes.{Appends, IsAtEnd}
use Rattle.cdg_io.specs.Moves.{AppendsPrefix, ConsumesBelow}
use Rattle.cdg_io.specs.Whole.{ConsumesExactly}
use Rattle.text_lines.specs.Text.{most_text_bytes}
use Rattle.cue_sheet.specs.CueSheet.{CueSheet}
use Rattle.cue_sheet.specs.Grammar.{read_cue}
use Rattle.picture_script.specs.Script.{Drawing}
use Rattle.picture_script.specs.ScriptGrammar.{read_script}
use Rattle.subcode_author.specs.Authored.{Disc, IsWrittenStream, disc_of}
use Rattle.subcode_author.specs.AuthorAnswer.{IsAccepted, IsAuthorStop}
use Rattle.subcode_author.specs.declared.stops.AuthorStop.{AuthorStop}
use Rattle.subcode_author.specs.declared.stops.AuthorStop.TheVariants as stop
use Rattle.cdg_io.specs.Change.{Bytes, Change}
use Rattle.cdg_cmd.specs.Call.{Call}
use Rattle.cdg_cmd.specs.Stops.{author_status}
use Rattle.cdg_cmd.specs.declared.status.Which.{Which}
use Rattle.cdg_cmd.specs.declared.status.Which.TheVariants.{First, Second}
use Rattle.cdg_cmd.specs.declared.status.Refusal.TheVariants.{TooLong, Cue, Script}
use Rattle.cdg_cmd.specs.declared.status.Status.{Status}
use Rattle.cdg_cmd.specs.declared.status.Status.TheVariants.{Refused, ReadFault, NoMemory}

-- the text is not too long, and its grammar reads it as this cue sheet
pub record IsSheetText (text : List ℕ) (sheet : CueSheet) : Type 0 where
  pub within : length text ≤ most_text_bytes
  pub reads : read_cue text ≡ Ok sheet

-- the text is not too long, and its grammar reads it as this script
pub record IsScriptText (text : List ℕ) (script : List Drawing) : Type 0 where
  pub within : length text ≤ most_text_bytes
  pub reads : read_script text ≡ Ok script

-- An input was read to its end, and its bytes are the text of this sheet.
abbrev pub ReadsSheet : Change Bytes → CueSheet → Type 0
ReadsSheet input sheet = IsAtEnd input.after × IfSome input.before (λ text. IsSheetText text sheet)

-- An input was read to its end, and its bytes are the text of this script.
abbrev pub ReadsScript : Change Bytes → List Drawing → Type 0
ReadsScript input script = IsAtEnd input.after × IfSome input.before (λ text. IsScriptText text script)

-- A text or a file needs memory: it is not empty, and not too long.
abbrev pub NeedsMemory : List ℕ → Type 0
NeedsMemory text = (0 < length text) × (length text ≤ most_text_bytes)

-- The status explains why an input has no text or file. An allocation fails only for an input that needs memory.
abbrev pub IsInputStop : Which → Bytes → Status → Type 0
IsInputStop which left (ReadFault failed) = failed ≡ which
IsInputStop which left (Refused TooLong) = IfSome left (λ text. most_text_bytes < length text)
IsInputStop which left NoMemory = IfSome left NeedsMemory
IsInputStop which left status = ⊥

-- The status explains why the first input has no sheet. An allocation fails only for an input that needs memory.
abbrev pub IsSheetStop : Bytes → Status → Type 0
IsSheetStop left (ReadFault First) = ⊤
IsSheetStop left (Refused TooLong) = IfSome left (λ text. most_text_bytes < length text)
IsSheetStop left (Refused (Cue line why)) =
    IfSome left (λ text. (length text ≤ most_text_bytes) × (read_cue text ≡ Err (line, why)))
IsSheetStop left NoMemory = IfSome left NeedsMemory
IsSheetStop left status = ⊥

-- The status explains why the second input has no script. An allocation may fail even for an empty input.
abbrev pub IsScriptStop : Bytes → Status → Type 0
IsScriptStop left (ReadFault Second) = ⊤
IsScriptStop left (Refused TooLong) = IfSome left (λ text. most_text_bytes < length text)
IsScriptStop left (Refused (Script line why)) =
    IfSome left (λ text. (length text ≤ most_text_bytes) × (read_script text ≡ Err (line, why)))
IsScriptStop left NoMemory = IfSome left (λ text. length text ≤ most_text_bytes)
IsScriptStop left status = ⊥

-- An input whose text was not accepted was consumed to this place. If the text is too long, this is the maximum length and
-- one byte. If a read failed, it is at most the maximum length. If the grammar is wrong or an allocation failed, it is the
-- end of the input.
abbrev pub TakesAtStop : Change Bytes → Status → Type 0
TakesAtStop input (ReadFault which) = ConsumesBelow input.before input.after (most_text_bytes + 1)
TakesAtStop input (Refused TooLong) = ConsumesExactly input.before input.after (most_text_bytes + 1)
TakesAtStop input (Refused why) = IsAtEnd input.after
TakesAtStop input NoMemory = IsAtEnd input.after
TakesAtStop input status = ⊥

-- A read or an allocation failed.
abbrev pub IsStopped : Status → Type 0
IsStopped (ReadFault which) = ⊤
IsStopped NoMemory = ⊤
IsStopped status = ⊥

-- The authored stream with the planned changes was written.
abbrev pub PutsAuthored : Disc → Change Bytes → Type 0
PutsAuthored disc out =
    (bytes : List ℕ) × (packs : List (List ℕ)) × IsWrittenStream disc bytes packs
    × Appends out.before out.after bytes

-- A prefix of the authored stream was written.
abbrev pub PutsPrefix : Disc → Change Bytes → Type 0
PutsPrefix disc out =
    (bytes : List ℕ) × (packs : List (List ℕ)) × IsWrittenStream disc bytes packs
    × AppendsPrefix out.before out.after bytes

-- This is the output for a disc, and the result has its reason.
pub record IsPutFor (disc : Disc) (out : Change Bytes) (answer : Result (Unit {0}) AuthorStop) : Type 0 where
  pub done : OnOk answer (IsAccepted disc.sheet disc.script disc.lead_in disc.audio × PutsAuthored disc out)
  pub why : IfErr answer (IsAuthorStop disc.sheet disc.script disc.lead_in disc.audio)
  -- if a write failed, a prefix was written, otherwise nothing
  pub cut : answer ≡ Err stop.WriteFault → PutsPrefix disc out
  pub nothing : IfErr answer (λ why. why ≢ stop.WriteFault → Appends out.before out.after [])

-- `author` ended with this status: at the first input, at the second input, or with the result for the sheet and the
-- script in these inputs.
pub data AuthorsWith (lead_in audio : ℕ) (call : Call Bytes) (status : Status) : Type 0 where
  StopsAtSheet : IsSheetStop call.first.before status → TakesAtStop call.first status
      → Appends call.out.before call.out.after [] → AuthorsWith lead_in audio call status
  StopsAtScript : (sheet : CueSheet) → ReadsSheet call.first sheet → IsScriptStop call.second.before status
      → TakesAtStop call.second status → Appends call.out.before call.out.after []
      → AuthorsWith lead_in audio call status
  Answers : (sheet : CueSheet) (script : List Drawing) (answer : Result (Unit {0}) AuthorStop)
      → ReadsSheet call.first sheet → ReadsScript call.second script → status ≡ author_status answer
      → IsPutFor (disc_of sheet script lead_in audio) call.out answer → AuthorsWith lead_in audio call status
