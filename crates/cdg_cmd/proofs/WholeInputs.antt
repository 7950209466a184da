-- Calls on known bytes, and where memory may be missing.
use Rattle.std.proofs.Common.{◌≢◌}
use Rattle.cdg_cmd.specs.Answer.{OnDone}
use Rattle.cdg_io.specs.Change.{Bytes, Change}
use Rattle.cdg_cmd.specs.Call.{Call}
use Rattle.cdg_cmd.specs.declared.status.Status.{Status}
use Rattle.cdg_cmd.specs.declared.status.Status.TheVariants.{Done, Damaged, Usage, Refused, Late, ReadFault, WriteFault, NoMemory}

-- a call on two inputs
abbrev pub both : Bytes → Bytes → Bytes → Bytes → Change Bytes → Call Bytes
both left left' more more' out = record {
  first = record { before = left; after = left' };
  second = record { before = more; after = more' };
  out = out;
}

pub unless_memory : (holds : Type 0) (status : Status) → (status ≢ NoMemory → OnDone holds status)
    → OnDone holds status
unless_memory holds Done gives = gives (λ e. cc)
unless_memory holds (Damaged n) gives = gives (λ e. cc)
unless_memory holds Usage gives = gives (λ e. cc)
unless_memory holds (Refused why) gives = gives (λ e. cc)
unless_memory holds (Late picture need free) gives = gives (λ e. cc)
unless_memory holds (ReadFault which) gives = tt
unless_memory holds WriteFault gives = tt
unless_memory holds NoMemory gives = tt
