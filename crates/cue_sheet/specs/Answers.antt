-- The result of parsing a text.
use Rattle.std.specs.Prelude.{◌≡◌, ℕ, Result, Ok, Err}
use Rattle.cue_sheet.specs.CueSheet.{CueSheet}
use Rattle.cue_sheet.specs.declared.fault.CueWhy.{CueWhy}
use Rattle.cue_sheet.specs.declared.fault.CueStop.{CueStop}
use Rattle.cue_sheet.specs.declared.fault.CueStop.TheVariants.{Fault, NoMemory}

-- The result is the sheet or the refusal of the text. `NoMemory` is possible only if the text has a sheet.
abbrev pub IsCueAnswer : Result CueSheet (ℕ × CueWhy) → Result CueSheet CueStop → Type 0
IsCueAnswer read (Ok sheet) = read ≡ Ok sheet
IsCueAnswer read (Err (Fault line why)) = read ≡ Err (line, why)
IsCueAnswer read (Err NoMemory) = (sheet : CueSheet) × (read ≡ Ok sheet)
