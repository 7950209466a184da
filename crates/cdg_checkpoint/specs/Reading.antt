-- Reading the file of a checkpoint.
use Rattle.std.specs.Prelude.{◌≡◌, ◌+◌, ◌<◌, ◌≤◌, ℕ, List, length, Result, OnErr, OnOk}
use Rattle.std.specs.Io.KnownBytes.{Consumes, IsAtEnd}
use Rattle.cdg_io.specs.Causes.{Count, HasCause, RoseOnce}
use Rattle.cdg_io.specs.Moves.{ConsumesBelow}
use Rattle.cdg_io.specs.declared.ends.Source.{Ghosts as Source}
use Rattle.cdg_checkpoint.specs.Table.{file_size}

-- The end of an input that is read as a file was recorded once if the input has no more bytes than a file, otherwise never.
pub record ReportsFileEnd {T E : Type 0} (file : List ℕ) (before now : Count)
    (result : Result T E) : Type 0 where
  pub reported : OnOk result (length file ≤ file_size → RoseOnce before now)
  pub goes_on : OnOk result (file_size < length file → now ≡ before)
  pub not_reported : OnErr result (now ≡ before)

-- These bytes were read from an input as a file: all its bytes, but at most one more than a file has. If a read failed,
-- they are the bytes before it.
pub record ReadsCheckpointFile {S T E : Type 0} (source : Source S) (before after : S) (file : List ℕ)
    (result : Result T E) : Type 0 where
  pub taken : Consumes (source.left before) (source.left after) file
  pub most : length file ≤ file_size + 1
  pub fewer : OnErr result (length file ≤ file_size)
  pub end : OnOk result (length file ≤ file_size → IsAtEnd (source.left after))
  pub part : OnErr result (ConsumesBelow (source.left before) (source.left after) (file_size + 1))
  pub cause : HasCause (source.faults before) (source.faults after) result
  pub ended : ReportsFileEnd file (source.ends before) (source.ends after) result
