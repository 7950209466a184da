-- The contract of a performed command.
use Rattle.std.specs.Prelude.{◌≡◌, ◌≢◌}
use Rattle.cdg_io.specs.Change.{Bytes, Change, Input}
use Rattle.cdg_cmd.specs.Answer.{Does, OutOfMemory}
use Rattle.cdg_cmd.specs.Call.{Call}
use Rattle.cdg_cmd.specs.Keeps.{Keeps, TakesFirst, TakesNone, WantsMemory}
use Rattle.cdg_cmd.specs.Profile.{ReportsEnds}
use Rattle.cdg_cmd.specs.declared.command.Command.{Command}
use Rattle.cdg_cmd.specs.declared.status.Status.{Status}
use Rattle.cdg_cmd.specs.declared.status.Status.TheVariants.{NoMemory}

-- the observed bytes of both inputs and of the output
abbrev pub seen_bytes : Input → Input → Change Bytes → Call Bytes
seen_bytes first second out = record { first = first.left; second = second.left; out = out }

-- A command was performed on two inputs and an output. `before` and `after` are their values.
pub record Performs {S T K : Type 0} (command : Command) (first second : Input) (out : Change Bytes)
    (before after : S × T × K) (status : Status) : Type 0 where
  -- an input that it does not read and an output that it does not write are unchanged
  pub keeps : Keeps command first before after status
  -- if an allocation failed, nothing was written; and if the command allocates first, nothing was read
  pub memory : WantsMemory command before after status
  -- the status and the output
  pub does : status ≢ NoMemory → Does command (seen_bytes first second out) status
  -- what is known of the inputs if an allocation failed
  pub out_of_memory : status ≡ NoMemory → OutOfMemory command (seen_bytes first second out)
  -- the end of an input is recorded once if it was read to its end, otherwise never; if the first allocation failed, an
  -- input is unchanged (`memory`)
  pub ends : (TakesFirst command → status ≢ NoMemory) → ReportsEnds command first second status

-- The effect of a command if no allocation failed. A command that allocates nothing never has the status `NoMemory`.
pub record Did (command : Command) (call : Call Bytes) (status : Status) : Type 0 where
  pub does : status ≢ NoMemory → Does command call status
  pub never : TakesNone command → status ≢ NoMemory
