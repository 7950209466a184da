-- A row for each command: its name and its words, its inputs, when it allocates and writes, and how the ends of its
-- inputs are recorded. `Does` states the effect of each command.
use Rattle.std.specs.Prelude.{◌≡◌, ◌≢◌, ◌≤◌, ◌<◌, ◌^◌, ℕ, List, [], codes, ⊤}
use Rattle.cdg_checkpoint.specs.Saved.{EndsAsSaved}
use Rattle.cdg_io.specs.Change.{Bytes, Change, Input}
use Rattle.cdg_io.specs.Pump.{ReportsEndOf}
use Rattle.cdg_workload.specs.Script.{most_generated}
use Rattle.cue_sheet.specs.CueSheet.{CueSheet}
use Rattle.disc_time.specs.Counts.{most_lead_in, time_count}
use Rattle.raw_subcode.specs.declared.form.Form.TheVariants.{Cooked}
use Rattle.stream_stages.specs.Calls.{EndFirst, EndInTurn}
use Rattle.cdg_cmd.specs.Authors.{IsScriptStop, ReadsSheet}
use Rattle.cdg_cmd.specs.Checkpoints.{ReadsCheckpoint}
use Rattle.cdg_cmd.specs.Ends.{EndsAs, EndsAsListed, FirstEnds, NeverEnds, ReadingsEnd, ResumeEnds, TextsEnd}
use Rattle.cdg_cmd.specs.Presses.{IsFileStop}
use Rattle.cdg_cmd.specs.Stops.{author_status, play_status, press_status, pump_status, thin_status}
use Rattle.cdg_cmd.specs.Words.{IsLeadInOption, IsLengths, IsMoment, IsScratchOptions, IsSeedOptions, IsStreamOptions, IsTimedOptions}
use Rattle.cdg_cmd.specs.declared.command.Command.{Command}
use Rattle.cdg_cmd.specs.declared.command.Command.TheVariants.{Convert, Screen, State, Check, Q, Text, Author, Planar, Raw, Scratch, Gen, Trial, Merge, Thin, Press, Save, Resume}
use Rattle.cdg_cmd.specs.declared.status.Status.{Status}

-- Which inputs a command reads: none, the first, both in turn, or the second only after the first was read to its end and
-- meets a condition.
pub data ReadingOrder : Type 1 where
  NoInput : ReadingOrder
  OneInput : ReadingOrder
  InTurn : ReadingOrder
  SecondAfter : (Change Bytes → Type 0) → ReadingOrder

-- when a command allocates: never, only before it reads, or also later
pub data MemoryUse : Type 0 where
  TakesNothing : MemoryUse
  TakesBefore : MemoryUse
  TakesLater : MemoryUse

-- when a command writes: as it reads, or only if its work is complete or a write fails
pub data WritingTime : Type 0 where
  AsItGoes : WritingTime
  AtTheEnd : WritingTime

-- the row of a command
pub record Profile : Type 1 where
  pub name : List ℕ
  -- the numbers and the forms that it may have
  pub allowed : Type 0
  -- the words after its name
  pub options : List (List ℕ) → Type 0
  pub reads : ReadingOrder
  pub memory : MemoryUse
  pub writes : WritingTime
  -- how the ends of both inputs are recorded
  pub ends : Input → Input → Status → Type 0

-- a row of the table below: name, allowed numbers and forms, options, inputs, memory, time of writing, ends
abbrev pub profile_row : List ℕ → Type 0 → (List (List ℕ) → Type 0) → ReadingOrder → MemoryUse → WritingTime
    → (Input → Input → Status → Type 0) → Profile
profile_row name allowed options reads memory writes ends = record {
  name = name;
  allowed = allowed;
  options = options;
  reads = reads;
  memory = memory;
  writes = writes;
  ends = ends;
}

-- The second input is read only after the cue sheet was read to its end and its grammar accepted it.
abbrev pub AfterSheet : ReadingOrder
AfterSheet = SecondAfter (λ first. (sheet : CueSheet) × ReadsSheet first sheet)

-- The second input is read only after the file of a checkpoint that is not later than a time.
abbrev pub AfterCheckpoint : ℕ → ReadingOrder
AfterCheckpoint at = SecondAfter (λ first. (file : List ℕ) × ReadsCheckpoint at first file)

-- The command has no words after its name.
abbrev pub HasNoOptions : List (List ℕ) → Type 0
HasNoOptions options = options ≡ []

-- The rows. Cooked blocks have no Q channel and no text packs; a number is in decimal without a leading zero.
abbrev pub profile : Command → Profile
profile (Convert lead_in form) = profile_row (codes "convert")
    (lead_in ≤ most_lead_in) (IsStreamOptions lead_in form)
    OneInput TakesNothing AsItGoes (FirstEnds (EndsAs play_status EndInTurn))
profile (Screen lead_in form at) = profile_row (codes "screen")
    ((lead_in ≤ most_lead_in) × (at < time_count)) (IsTimedOptions lead_in form at)
    OneInput TakesBefore AtTheEnd (FirstEnds (EndsAs play_status EndFirst))
profile (State lead_in form at) = profile_row (codes "state")
    ((lead_in ≤ most_lead_in) × (at < time_count)) (IsTimedOptions lead_in form at)
    OneInput TakesBefore AtTheEnd (FirstEnds (EndsAs play_status EndFirst))
profile (Check lead_in form) = profile_row (codes "check")
    (lead_in ≤ most_lead_in) (IsStreamOptions lead_in form)
    OneInput TakesNothing AtTheEnd (FirstEnds (EndsAs play_status EndFirst))
profile (Q lead_in form) = profile_row (codes "q")
    ((lead_in ≤ most_lead_in) × (form ≢ Cooked)) (IsStreamOptions lead_in form)
    OneInput TakesNothing AsItGoes (FirstEnds (EndsAs play_status EndInTurn))
profile (Text lead_in form) = profile_row (codes "text")
    ((lead_in ≤ most_lead_in) × (form ≢ Cooked)) (IsStreamOptions lead_in form)
    OneInput TakesLater AtTheEnd (FirstEnds EndsAsListed)
profile (Author lead_in length) = profile_row (codes "author")
    ((lead_in ≤ most_lead_in) × (length < time_count)) (IsLengths lead_in length)
    AfterSheet TakesLater AtTheEnd (TextsEnd IsScriptStop author_status)
profile Planar = profile_row (codes "planar")
    ⊤ HasNoOptions
    OneInput TakesNothing AsItGoes (FirstEnds (EndsAs pump_status ReportsEndOf))
profile Raw = profile_row (codes "raw")
    ⊤ HasNoOptions
    OneInput TakesNothing AsItGoes (FirstEnds (EndsAs pump_status ReportsEndOf))
profile (Scratch lead_in seed) = profile_row (codes "scratch")
    ((lead_in ≤ most_lead_in) × (seed < 2 ^ 64)) (IsScratchOptions lead_in seed)
    OneInput TakesNothing AsItGoes (FirstEnds (EndsAs pump_status ReportsEndOf))
profile (Gen seed pictures) = profile_row (codes "gen")
    ((seed < 2 ^ 64) × (1 ≤ pictures) × (pictures ≤ most_generated)) (IsSeedOptions seed pictures)
    NoInput TakesNothing AsItGoes (FirstEnds NeverEnds)
profile (Trial seed pictures) = profile_row (codes "trial")
    ((seed < 2 ^ 64) × (1 ≤ pictures) × (pictures ≤ most_generated)) (IsSeedOptions seed pictures)
    NoInput TakesBefore AtTheEnd (FirstEnds NeverEnds)
profile (Merge lead_in) = profile_row (codes "merge")
    (lead_in ≤ most_lead_in) (IsLeadInOption lead_in)
    InTurn TakesNothing AsItGoes ReadingsEnd
profile Thin = profile_row (codes "thin")
    ⊤ HasNoOptions
    OneInput TakesBefore AsItGoes (FirstEnds (EndsAs thin_status ReportsEndOf))
profile (Press lead_in length) = profile_row (codes "press")
    ((lead_in ≤ most_lead_in) × (length < time_count)) (IsLengths lead_in length)
    AfterSheet TakesLater AtTheEnd (TextsEnd IsFileStop press_status)
profile (Save lead_in) = profile_row (codes "save")
    (lead_in ≤ most_lead_in) (IsLeadInOption lead_in)
    OneInput TakesBefore AtTheEnd (FirstEnds (EndsAs pump_status EndsAsSaved))
profile (Resume at) = profile_row (codes "resume")
    (at < time_count) (IsMoment at)
    (AfterCheckpoint at) TakesBefore AtTheEnd (ResumeEnds at)

-- If no allocation before reading failed, the end of each input is recorded once if it was read to its end, otherwise
-- never.
abbrev pub ReportsEnds : Command → Input → Input → Status → Type 0
ReportsEnds command = (profile command).ends
