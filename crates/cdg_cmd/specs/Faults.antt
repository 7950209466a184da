-- When a status is a fault: if and only if a count of faults rose.
use Rattle.std.specs.Prelude.{◌≡◌, ◌≢◌, ◌≤◌, ⊤, ℕ}
use Rattle.cdg_io.specs.Causes.{Rose}
use Rattle.cdg_io.specs.Change.{Change, from_to}
use Rattle.cdg_cmd.specs.Call.{Call}
use Rattle.cdg_cmd.specs.declared.status.Status.{Status}
use Rattle.cdg_cmd.specs.declared.status.Status.TheVariants.{Done, Damaged, Usage, Refused, Late, ReadFault, WriteFault, NoMemory}
use Rattle.cdg_cmd.specs.declared.status.Which.TheVariants.{First, Second}

-- A count of faults did not fall: if the status is this fault the count rose, otherwise it is unchanged.
pub record IsReported (fault : Status) (count : Change ℕ) (status : Status) : Type 0 where
  pub later : count.before ≤ count.after
  pub rose : status ≡ fault → Rose count.before count.after
  pub same : status ≢ fault → count.after ≡ count.before

-- The status is `NoMemory` if and only if an allocation failed: the count of failed allocations rose.
abbrev pub ReportsNoMemory : ℕ → ℕ → Status → Type 0
ReportsNoMemory before after status = IsReported NoMemory (from_to before after) status

-- `IsReported` holds for both inputs and for the output.
pub record ReportsFaults (counts : Call ℕ) (status : Status) : Type 0 where
  pub first : IsReported (ReadFault First) counts.first status
  pub second : IsReported (ReadFault Second) counts.second status
  pub out : IsReported WriteFault counts.out status

-- `IsReported` holds for a command with one input: the words were a command, and the status is no fault of another input.
pub record ReportsOne (source out : Change ℕ) (status : Status) : Type 0 where
  pub read : IsReported (ReadFault First) source status
  pub write : IsReported WriteFault out status
  pub never : (status ≢ Usage) × (status ≢ ReadFault Second)

-- No count of faults rose.
pub record NoneRose (counts : Call ℕ) : Type 0 where
  pub first : ¬ (Rose counts.first.before counts.first.after)
  pub second : ¬ (Rose counts.second.before counts.second.after)
  pub out : ¬ (Rose counts.out.before counts.out.after)

-- The words were a command, and the status is no fault.
abbrev pub IsAnswered : Status → Type 0
IsAnswered Done = ⊤
IsAnswered (Damaged n) = ⊤
IsAnswered (Refused why) = ⊤
IsAnswered (Late picture need free) = ⊤
IsAnswered NoMemory = ⊤
IsAnswered Usage = ⊥
IsAnswered (ReadFault which) = ⊥
IsAnswered WriteFault = ⊥
