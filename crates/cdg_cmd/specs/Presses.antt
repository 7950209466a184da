-- The status and the output of `press` for a cue sheet and a file of packs.
use Rattle.std.specs.Prelude.{◌≡◌, ◌≢◌, ℕ, ◌<◌, ◌≤◌, ⊤, List, [], length, Result, Err, IfErr, IfSome, OnOk}
use Rattle.std.specs.Io.KnownBytes.{Appends, IsAtEnd}
use Rattle.text_lines.specs.Text.{most_text_bytes}
use Rattle.cue_sheet.specs.CueSheet.{CueSheet}
use Rattle.cdg_io.specs.Moves.{AppendsPrefix}
use Rattle.cdg_press.specs.Pressed.{IsPressed, Press, press_of}
use Rattle.cdg_press.specs.Refusals.{IsPressable, IsPressStop}
use Rattle.cdg_press.specs.declared.stops.PressStop.{PressStop}
use Rattle.cdg_press.specs.declared.stops.PressStop.TheVariants as stop
use Rattle.cdg_cmd.specs.Authors.{IsSheetStop, NeedsMemory, ReadsSheet, TakesAtStop}
use Rattle.cdg_io.specs.Change.{Bytes, Change}
use Rattle.cdg_cmd.specs.Call.{Call}
use Rattle.cdg_cmd.specs.Stops.{press_status}
use Rattle.cdg_cmd.specs.declared.status.Which.TheVariants.{Second}
use Rattle.cdg_cmd.specs.declared.status.Refusal.TheVariants.{TooLong}
use Rattle.cdg_cmd.specs.declared.status.Status.{Status}
use Rattle.cdg_cmd.specs.declared.status.Status.TheVariants.{Refused, ReadFault, NoMemory}

-- An input was read to its end, and its bytes are this file, which is not too long.
pub record ReadsFile (input : Change Bytes) (file : List ℕ) : Type 0 where
  pub end : IsAtEnd input.after
  pub within : length file ≤ most_text_bytes
  pub held : IfSome input.before (λ bytes. file ≡ bytes)

-- The status explains why the second input has no file. An allocation fails only for an input that needs memory.
abbrev pub IsFileStop : Bytes → Status → Type 0
IsFileStop left (ReadFault Second) = ⊤
IsFileStop left (Refused TooLong) = IfSome left (λ file. most_text_bytes < length file)
IsFileStop left NoMemory = IfSome left NeedsMemory
IsFileStop left status = ⊥

-- A pressed stream was written.
abbrev pub PutsPressed : Press → Change Bytes → Type 0
PutsPressed press out =
    (bytes : List ℕ) × (packs : List (List ℕ)) × IsPressed press bytes packs
    × Appends out.before out.after bytes

-- A prefix of a pressed stream was written.
abbrev pub PutsPressedPrefix : Press → Change Bytes → Type 0
PutsPressedPrefix press out =
    (bytes : List ℕ) × (packs : List (List ℕ)) × IsPressed press bytes packs
    × AppendsPrefix out.before out.after bytes

-- This is the output for a sheet and a file, and the result has its reason.
pub record IsPressedFor (press : Press) (out : Change Bytes)
    (answer : Result (Unit {0}) PressStop) : Type 0 where
  pub done : OnOk answer
      (IsPressable press.sheet press.file press.lead_in press.audio × PutsPressed press out)
  pub why : IfErr answer (IsPressStop press.sheet press.file press.lead_in press.audio)
  -- if a write failed, a prefix was written, otherwise nothing
  pub cut : answer ≡ Err stop.WriteFault → PutsPressedPrefix press out
  pub nothing : IfErr answer (λ why. why ≢ stop.WriteFault → Appends out.before out.after [])

-- `press` ended with this status: at the sheet, at the file, or with the result for both.
pub data PressesWith (lead_in audio : ℕ) (call : Call Bytes) (status : Status) : Type 0 where
  RefusesSheet : IsSheetStop call.first.before status → TakesAtStop call.first status
      → Appends call.out.before call.out.after [] → PressesWith lead_in audio call status
  RefusesFile : (sheet : CueSheet) → ReadsSheet call.first sheet → IsFileStop call.second.before status
      → TakesAtStop call.second status → Appends call.out.before call.out.after []
      → PressesWith lead_in audio call status
  Presses : (sheet : CueSheet) (file : List ℕ) (answer : Result (Unit {0}) PressStop)
      → ReadsSheet call.first sheet
      → ReadsFile call.second file → status ≡ press_status answer
      → IsPressedFor (press_of sheet file lead_in audio) call.out answer
      → PressesWith lead_in audio call status
