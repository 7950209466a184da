-- What a command leaves unchanged.
use Rattle.std.specs.Prelude.{◌≡◌, ◌≢◌, ◌⊎◌, ⊤}
use Rattle.cdg_io.specs.Causes.{RoseOnce}
use Rattle.cdg_io.specs.Change.{Bytes, Change, Input}
use Rattle.cdg_cmd.specs.Profile.{AsItGoes, AtTheEnd, InTurn, MemoryUse, NoInput, ReadingOrder, SecondAfter, TakesLater, TakesNothing, WritingTime, profile}
use Rattle.cdg_cmd.specs.declared.command.Command.{Command}
use Rattle.cdg_cmd.specs.declared.status.Status.{Status}
use Rattle.cdg_cmd.specs.declared.status.Status.TheVariants.{Done, Damaged, WriteFault, NoMemory}

-- No input is read in this order.
abbrev pub IsUnread : ReadingOrder → Type 0
IsUnread NoInput = ⊤
IsUnread order = ⊥

-- The second input is read in this order, if the first was read like this.
abbrev pub ReachesSecond : ReadingOrder → Change Bytes → Type 0
ReachesSecond InTurn first = ⊤
ReachesSecond (SecondAfter holds) first = holds first
ReachesSecond order first = ⊥

-- The second input may be read: in turn with the first, or only after the end of the first.
abbrev pub MayReachSecond : ReadingOrder → Input → Type 0
MayReachSecond InTurn first = ⊤
MayReachSecond (SecondAfter holds) first = RoseOnce first.ends.before first.ends.after × holds first.left
MayReachSecond order first = ⊥

-- The command reads no input.
abbrev pub ReadsNone : Command → Type 0
ReadsNone command = IsUnread (profile command).reads

-- The command reads its second input.
abbrev pub ReadsSecond : Command → Change Bytes → Type 0
ReadsSecond command first = ReachesSecond (profile command).reads first

-- The command may read its second input.
abbrev pub MayReadSecond : Command → Input → Type 0
MayReadSecond command first = MayReachSecond (profile command).reads first

-- At this time of writing, nothing is written unless the work is complete or a write fails.
abbrev pub WaitsForEnd : WritingTime → Type 0
WaitsForEnd AtTheEnd = ⊤
WaitsForEnd AsItGoes = ⊥

-- The command writes nothing unless its work is complete or a write fails.
abbrev pub WritesLast : Command → Type 0
WritesLast command = WaitsForEnd (profile command).writes

-- The work is complete, or a write failed.
abbrev pub MayWrite : Status → Type 0
MayWrite Done = ⊤
MayWrite (Damaged n) = ⊤
MayWrite WriteFault = ⊤
MayWrite status = ⊥

-- The command allocates nothing.
abbrev pub IsWithoutMemory : MemoryUse → Type 0
IsWithoutMemory TakesNothing = ⊤
IsWithoutMemory memory = ⊥

-- The command allocates nothing after it starts to read.
abbrev pub IsMemoryFirst : MemoryUse → Type 0
IsMemoryFirst TakesLater = ⊥
IsMemoryFirst memory = ⊤

-- The command allocates nothing.
abbrev pub TakesNone : Command → Type 0
TakesNone command = IsWithoutMemory (profile command).memory

-- The command allocates all memory before it reads.
abbrev pub TakesFirst : Command → Type 0
TakesFirst command = IsMemoryFirst (profile command).memory

-- For the two inputs and the output, in this order: an input that is not read and an output that is not written are
-- unchanged.
pub record Keeps {S T K : Type 0} (command : Command) (read : Input) (before after : S × T × K)
    (status : Status) : Type 0 where
  pub first : ReadsNone command → after.0 ≡ before.0
  pub second : (after.1 ≡ before.1) ⊎ MayReadSecond command read
  pub out : WritesLast command → ¬ (MayWrite status) → after.2 ≡ before.2

-- If an allocation failed, nothing was written; and if the command allocates first, nothing was read.
pub record WantsMemory {S T K : Type 0} (command : Command) (before after : S × T × K)
    (status : Status) : Type 0 where
  pub out : status ≡ NoMemory → after.2 ≡ before.2
  pub inputs : TakesFirst command → status ≡ NoMemory → (after.0 ≡ before.0) × (after.1 ≡ before.1)
  pub never : TakesNone command → status ≢ NoMemory
