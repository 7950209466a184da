-- How often a command reaches the end of an input: the count of ends rises by one if and only if the input is read to
-- its end. For a command that makes one call, the result of this call decides it.
use Rattle.std.specs.Prelude.{◌≡◌, ◌⊎◌, ℕ, List, IsErr, IsOk, Result, Ok, Err, length}
use Rattle.std.specs.Io.KnownBytes.{Consumes, IsAtEnd}
use Rattle.cdg_io.specs.Causes.{Count}
use Rattle.cdg_io.specs.Change.{Bytes, Input}
use Rattle.cdg_checkpoint.specs.Resumed.{EndsAsResumed, IsAcceptedBy, ReadsSaved, acceptance}
use Rattle.cdg_checkpoint.specs.declared.stops.Resumed.{Resumed}
use Rattle.cdg_checkpoint.specs.declared.stops.ResumeStop.{ResumeStop}
use Rattle.rw_merge.specs.Merging.{EndsBoth, EndReported, EndUnreported}
use Rattle.rw_merge.specs.declared.merge.Merged.{Merged}
use Rattle.rw_merge.specs.declared.merge.MergeStop.{MergeStop}
use Rattle.stream_stages.specs.Calls.{EndFirst}
use Rattle.cue_sheet.specs.CueSheet.{CueSheet}
use Rattle.cdg_cmd.specs.Authors.{IsSheetStop, ReadsSheet, TakesAtStop}
use Rattle.cdg_cmd.specs.Stops.{merge_status, play_status, resume_status}
use Rattle.cdg_cmd.specs.declared.status.Refusal.TheVariants.{TooLong}
use Rattle.cdg_cmd.specs.declared.status.Status.{Status}
use Rattle.cdg_cmd.specs.declared.status.Status.TheVariants.{Refused, ReadFault, NoMemory}

-- The status is that of a result, and the end of an input was recorded as this result requires.
pub record EndsAs {A : Type 0} (status_of : A → Status) (reported : A → Count → Count → Type 0)
    (input : Input) (status : Status) : Type 0 where
  pub answer : A
  pub status_is : status ≡ status_of answer
  pub ended : reported answer input.ends.before input.ends.after

-- A command lists the texts of a lead-in. It may run out of memory before it reads, or after the end of the input.
abbrev pub EndsAsListed : Input → Status → Type 0
EndsAsListed input status =
    ((status ≡ NoMemory) × (input.left.after ≡ input.left.before) × EndUnreported input.ends)
    ⊎ (EndsAs play_status EndFirst input status × (status ≡ NoMemory → IsAtEnd input.left.after))

-- An input has no text or file, or is refused: its end was recorded unless the input is too long or a read failed.
abbrev pub StopEnds : Input → Status → Type 0
StopEnds input (Refused TooLong) = EndUnreported input.ends
StopEnds input (ReadFault which) = EndUnreported input.ends
StopEnds input status = EndReported input.ends

-- If an input has a text, its end was recorded. Otherwise `StopEnds` says whether its end was recorded.
abbrev pub ReportsTextEnd : {T : Type 0} → Input → Result T Status → Type 0
ReportsTextEnd input (Ok text) = EndReported input.ends
ReportsTextEnd input (Err status) = StopEnds input status

-- The ends of the two inputs of `author` or `press`. The command may stop at the cue sheet, at the second input, or
-- with the result for both.
pub data TextsEnd {A : Type 0} (is_second_stop : Bytes → Status → Type 0) (status_of : A → Status)
    (sheet second : Input) (status : Status) : Type 0 where
  AtSheet : IsSheetStop sheet.left.before status → StopEnds sheet status
      → second.left.after ≡ second.left.before → EndUnreported second.ends
      → TextsEnd is_second_stop status_of sheet second status
  AtSecond : (text : CueSheet) → ReadsSheet sheet.left text → EndReported sheet.ends
      → is_second_stop second.left.before status → TakesAtStop second.left status → StopEnds second status
      → TextsEnd is_second_stop status_of sheet second status
  AfterBoth : EndReported sheet.ends → IsAtEnd second.left.after → EndReported second.ends → (answer : A)
      → status ≡ status_of answer → TextsEnd is_second_stop status_of sheet second status

-- The ends of two readings, which are read in turn, were recorded as a merge requires.
pub record ReadingsEnd (one other : Input) (status : Status) : Type 0 where
  pub answer : Result Merged MergeStop
  pub status_is : status ≡ merge_status answer
  pub taken : List ℕ
  pub other_taken : List ℕ
  pub took : Consumes one.left.before one.left.after taken
  pub other_took : Consumes other.left.before other.left.after other_taken
  pub ended : EndsBoth answer (length taken) (length other_taken) one.ends other.ends

-- The ends of a checkpoint's file and of the rest of its stream were recorded. The rest is read only if the file is
-- accepted.
pub record ResumeEnds (at : ℕ) (saved rest : Input) (status : Status) : Type 0 where
  pub answer : Result Resumed ResumeStop
  pub status_is : status ≡ resume_status answer
  pub file : List ℕ
  pub accepted : IsAcceptedBy (acceptance answer) at file
  pub reads : ReadsSaved saved answer file
  pub unread : IsErr (acceptance answer) → EndUnreported rest.ends
  pub ended : IsOk (acceptance answer) → EndsAsResumed answer rest.ends.before rest.ends.after

-- A command does not read this input, so it does not record its end.
abbrev pub NeverEnds : Input → Status → Type 0
NeverEnds input status = EndUnreported input.ends

-- The ends for a command that does not read the second input.
abbrev pub FirstEnds : (Input → Status → Type 0) → Input → Input → Status → Type 0
FirstEnds ends one other status = ends one status × EndUnreported other.ends
