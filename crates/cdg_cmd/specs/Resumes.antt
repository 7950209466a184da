-- What `resume` shows from the file of a checkpoint and the rest of a stream.
use Rattle.std.specs.Prelude.{◌≡◌, ℕ, ◌≤◌, ◌-◌, ◌/◌, List, [], ◌++◌, length, Some, Result, Ok, Err}
use Rattle.std.specs.Io.KnownBytes.{Appends}
use Rattle.raw_subcode.specs.declared.form.Form.TheVariants.{Raw}
use Rattle.cdg_checkpoint.specs.Checkpoint.{checkpoint_in}
use Rattle.cdg_checkpoint.specs.Table.{IsCheckpointFile}
use Rattle.cdg_checkpoint.specs.Resumed.{IsResumed, IsResumedBy}
use Rattle.cdg_checkpoint.specs.declared.stops.Resumed.{Resumed}
use Rattle.cdg_checkpoint.specs.declared.stops.ResumeStop.{ResumeStop}
use Rattle.raw_subcode.specs.Sizes.{block_bytes}
use Rattle.cdg_cmd.specs.Answer.{Does}
use Rattle.cdg_io.specs.Change.{Bytes, Change}
use Rattle.cdg_cmd.specs.Call.{Call}
use Rattle.cdg_cmd.specs.Faults.{IsAnswered}
use Rattle.cdg_cmd.specs.Spelling.{IsAllowed}
use Rattle.cdg_cmd.specs.Stops.{resume_status}
use Rattle.cdg_cmd.specs.declared.command.Command.TheVariants.{Save, Screen}
use Rattle.cdg_cmd.specs.declared.status.Status.{Status}
use Rattle.cdg_cmd.specs.declared.status.Status.TheVariants.{Done}

-- a call with these bytes in its first input, of which `left` remained after the call
abbrev pub reading : List ℕ → Bytes → Change Bytes → Change Bytes → Call Bytes
reading bytes left second out = record {
  first = record { before = Some bytes; after = left };
  second = second;
  out = out;
}

-- `save` wrote this file for these bytes, with the status `Done`.
pub record IsSaveOf (lead_in : ℕ) (bytes file : List ℕ) : Type 0 where
  pub allowed : IsAllowed (Save lead_in)
  pub left : Bytes
  pub second : Change Bytes
  pub done : Does (Save lead_in) (reading bytes left second (record {
    before = Some [];
    after = Some file;
  })) Done

-- This is the output for a result: the pixmap of the screen at the time, or nothing.
abbrev pub PutsMoment : Result Resumed ResumeStop → List ℕ → ℕ → List ℕ → Change Bytes → Type 0
PutsMoment (Ok resumed) file at rest out = (text : List ℕ) × IsResumed file at rest resumed text
    × Appends out.before out.after text
PutsMoment (Err stop) file at rest out = Appends out.before out.after []

-- The status follows from the checkpoint in a file and from the length of the rest of a stream. The output is that of this
-- result.
pub record GoesOnFrom (file : List ℕ) (at : ℕ) (rest : List ℕ) (out : Change Bytes)
    (status : Status) : Type 0 where
  pub answer : Result Resumed ResumeStop
  pub status_is : status ≡ resume_status answer
  pub exactly : IsResumedBy answer (checkpoint_in file) at (length rest)
  pub put : PutsMoment answer file at rest out

-- Two calls wrote the same output.
abbrev pub PutSame : Change Bytes → Change Bytes → Type 0
PutSame out other = (text : List ℕ) × Appends out.before out.after text
    × Appends other.before other.after text

-- The status and the output are those of `screen` at a time of a stream.
pub record IsAsScreen (lead_in at : ℕ) (stream : List ℕ) (out : Change Bytes) (status : Status) : Type 0 where
  -- `screen` allows this status and output
  pub left : Bytes
  pub second : Change Bytes
  pub does : Does (Screen lead_in Raw at) (reading stream left second out) status
  -- and no others: each call of `screen` with this stream in which no read and no write fails has the same status and
  -- output
  pub same : (other_left : Bytes) (other_second other_out : Change Bytes) (other : Status)
      → Does (Screen lead_in Raw at) (reading stream other_left other_second other_out) other
      → IsAnswered other
      → (other ≡ status) × PutSame out other_out

-- This is the status and the output of `resume` at a time, for a file and the rest of a stream, if no read, no write and no
-- allocation failed.
pub record ResumesFrom (file : List ℕ) (at : ℕ) (rest : List ℕ) (out : Change Bytes)
    (status : Status) : Type 0 where
  -- for a file from any origin: if it has a checkpoint not later than the time, the screen at the time is written
  pub goes_on : IsCheckpointFile file → (checkpoint_in file).program ≤ at → GoesOnFrom file at rest out status
  -- if `save` wrote the file for the first part of a stream, which ends not later than the time, `screen` has the same
  -- status and output for the whole stream
  pub whole : (lead_in : ℕ) (part : List ℕ) → IsSaveOf lead_in part file
      → length part / block_bytes - lead_in ≤ at
      → IsAsScreen lead_in at (part ++ rest) out status
