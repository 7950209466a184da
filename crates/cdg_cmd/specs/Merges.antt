-- The status and the output of `merge` for two readings of a stream.
use Rattle.std.specs.Prelude.{◌≡◌, ℕ, List, length, Result, IfSome}
use Rattle.std.specs.Io.KnownBytes.{Consumes}
use Rattle.rw_merge.specs.Merging.{FirstIsAtEnd, EndsSecond, IsAnswer, Merges}
use Rattle.rw_merge.specs.declared.merge.Merged.{Merged}
use Rattle.rw_merge.specs.declared.merge.MergeStop.{MergeStop}
use Rattle.cdg_io.specs.Change.{Bytes}
use Rattle.cdg_cmd.specs.Call.{Call}
use Rattle.cdg_cmd.specs.Stops.{merge_status}
use Rattle.cdg_cmd.specs.declared.status.Status.{Status}

-- Two readings were merged: the result, the bytes that were consumed from each, the output for them, and the exact
-- result if there was no fault.
pub record MergesWith (lead_in : ℕ) (call : Call Bytes) (status : Status) : Type 0 where
  pub answer : Result Merged MergeStop
  pub status_is : status ≡ merge_status answer
  pub taken : List ℕ
  pub other_taken : List ℕ
  pub first : Consumes call.first.before call.first.after taken
  pub second : Consumes call.second.before call.second.after other_taken
  pub put : Merges lead_in call.out answer taken other_taken
  pub first_end : FirstIsAtEnd answer call.first.after
  pub second_end : EndsSecond answer call.second.after
  pub exactly : IfSome call.first.before
      (λ all. IfSome call.second.before (λ other. IsAnswer lead_in answer (length all) (length other)))
