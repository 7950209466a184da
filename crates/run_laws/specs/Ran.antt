-- The contract of `run` for its command.
use Rattle.std.specs.Prelude.{◌≡◌, ◌≢◌, []}
use Rattle.std.specs.Io.KnownBytes.{Appends}
use Rattle.cdg_cmd.specs.Answer.{Does}
use Rattle.cdg_io.specs.Change.{Bytes}
use Rattle.cdg_cmd.specs.Call.{Call}
use Rattle.cdg_cmd.specs.Keeps.{TakesNone}
use Rattle.cdg_cmd.specs.declared.command.Command.{Command}
use Rattle.cdg_cmd.specs.declared.status.Status.{Status}
use Rattle.cdg_cmd.specs.declared.status.Status.TheVariants.{NoMemory}

-- A command was run: it had this effect, or an allocation failed and nothing was written. A command that allocates
-- nothing never has the status `NoMemory`.
pub record IsRun (command : Command) (call : Call Bytes) (status : Status) : Type 0 where
  pub does : status ≢ NoMemory → Does command call status
  pub nothing : status ≡ NoMemory → Appends call.out.before call.out.after []
  pub never : TakesNone command → status ≢ NoMemory
