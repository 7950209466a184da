-- The statuses and the outputs of `save` and `resume`.
use Rattle.std.specs.Prelude.{◌≡◌, ◌≢◌, ◌≤◌, ◌+◌, ℕ, List, length, Result, Err, IsOk, IfSome}
use Rattle.raw_subcode.specs.Sizes.{block_bytes, most_units}
use Rattle.std.specs.Io.KnownBytes.{Consumes, IsAtEnd}
use Rattle.cdg_io.specs.Moves.{ConsumesBelow}
use Rattle.cdg_io.specs.Pump.{IsUnlessFault, answer_of}
use Rattle.cdg_checkpoint.specs.Checkpoint.{checkpoint_in}
use Rattle.cdg_checkpoint.specs.Table.{IsCheckpointFile, file_size}
use Rattle.cdg_checkpoint.specs.Saved.{Saves}
use Rattle.cdg_checkpoint.specs.Resumed.{IsAcceptedBy, IsResumedBy, Resumes, acceptance}
use Rattle.cdg_checkpoint.specs.declared.stops.Resumed.{Resumed}
use Rattle.cdg_checkpoint.specs.declared.stops.ResumeStop.{ResumeStop}
use Rattle.cdg_checkpoint.specs.declared.stops.ResumeStop.TheVariants as resume
use Rattle.cdg_io.specs.Change.{Bytes, Change}
use Rattle.cdg_cmd.specs.Call.{Call, through}
use Rattle.cdg_cmd.specs.Endings.{EndsWith}
use Rattle.cdg_cmd.specs.Stops.{pump_status, resume_status}
use Rattle.cdg_cmd.specs.declared.status.Status.{Status}

-- The checkpoint of a stream was written after the whole stream was read.
abbrev pub SavesWith : ℕ → Call Bytes → Status → Type 0
SavesWith lead_in call status =
    EndsWith pump_status (Saves lead_in (through call))
    (λ answer. IfSome call.first.before
    (λ all. IsUnlessFault answer (answer_of block_bytes most_units (length all))))
    status

-- An input was read to its end, and it had the file of a checkpoint that is not later than a time.
pub record ReadsCheckpoint (at : ℕ) (input : Change Bytes) (file : List ℕ) : Type 0 where
  pub is_file : IsCheckpointFile file
  pub not_later : (checkpoint_in file).program ≤ at
  pub taken : Consumes input.before input.after file
  pub end : IsAtEnd input.after

-- A stream was resumed: the result, the file that was read, the output, and the exact result if there was no fault.
pub record ResumesWith (at : ℕ) (call : Call Bytes) (status : Status) : Type 0 where
  pub answer : Result Resumed ResumeStop
  pub status_is : status ≡ resume_status answer
  pub file : List ℕ
  -- at most one byte more than the file of a checkpoint was read
  pub most : length file ≤ file_size + 1
  pub taken : answer ≢ Err resume.FirstFault → Consumes call.first.before call.first.after file
  -- if a read failed, at most as many bytes as the file of a checkpoint were read
  pub cut : answer ≡ Err resume.FirstFault → ConsumesBelow call.first.before call.first.after (file_size + 1)
  pub whole : answer ≢ Err resume.FirstFault → length file ≤ file_size → IsAtEnd call.first.after
  pub accepted : IsAcceptedBy (acceptance answer) at file
  pub goes_on : IsOk (acceptance answer)
      → (rest : List ℕ) × Resumes file at (record { left = call.second; held = call.out }) answer rest
  pub exactly : IsOk (acceptance answer)
      → IfSome call.second.before (λ all. IsResumedBy answer (checkpoint_in file) at (length all))
