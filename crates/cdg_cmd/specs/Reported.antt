-- What was written to the error output.
use Rattle.std.specs.Prelude.{◌≡◌, ◌⊎◌, ℕ}
use Rattle.std.specs.Io.KnownBytes.{Appends}
use Rattle.cdg_io.specs.Causes.{Rose}
use Rattle.cdg_io.specs.Moves.{AppendsPrefix}
use Rattle.cdg_io.specs.Change.{Bytes}
use Rattle.cdg_cmd.specs.Line.{error_line}
use Rattle.cdg_cmd.specs.declared.status.Status.{Status}
use Rattle.cdg_cmd.specs.declared.status.Status.TheVariants.{Done}

-- The line of the status was written and no write failed, or a write failed and a prefix of the line was written. For
-- `Done`, the error output is unchanged.
pub record ReportsStatus {E : Type 0} (held : E → Bytes) (faults : E → ℕ) (before after : E)
    (status : Status) : Type 0 where
  pub line : ((faults after ≡ faults before) × Appends (held before) (held after) (error_line status))
      ⊎ (Rose (faults before) (faults after) × AppendsPrefix (held before) (held after) (error_line status))
  pub silent : status ≡ Done → after ≡ before
