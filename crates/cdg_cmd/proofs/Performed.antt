-- The effects of a command, and how the facts about them are combined.
use Rattle.std.proofs.Common.{◌≡◌, ◌≢◌, ◌⊎◌, inl, inr, sym, subst}
use Rattle.cdg_io.specs.Change.{Bytes, Change, Input}
use Rattle.cdg_cmd.specs.Keeps.{MayWrite, TakesFirst, TakesNone, WantsMemory}
use Rattle.cdg_cmd.specs.Performs.{Did, Performs, seen_bytes}
use Rattle.cdg_cmd.specs.declared.command.Command.{Command}
use Rattle.cdg_cmd.specs.declared.status.Status.{Status}
use Rattle.cdg_cmd.specs.declared.status.Status.TheVariants.{Done, WriteFault, NoMemory}

pub did : {S T K : Type 0} {command : Command} {first second : Input} {out : Change Bytes}
    {before after : S × T × K} {status : Status} → Performs command first second out before after status
    → Did command (seen_bytes first second out) status
did performed = record { does = performed.does; never = performed.memory.never }

-- the same command by another name
pub performed_as : {S T K : Type 0} {command named : Command} {first second : Input} {out : Change Bytes}
    {before after : S × T × K} {status : Status} → command ≡ named
    → Performs named first second out before after status
    → Performs command first second out before after status
performed_as {S} {T} {K} {command} {named} {first} {second} {out} {before} {after} {status} is performed =
    subst (λ (k : Command). Performs k first second out before after status) (sym is) performed

module _ {S T K : Type 0} {command : Command} {before after : S × T × K} {status : Status} where
  -- the command needs no memory
  pub no_allocation_failed : status ≢ NoMemory → WantsMemory command before after status
  no_allocation_failed found = record {
    out = λ none. absurd (found none);
    inputs = λ first none. absurd (found none);
    never = λ takes. found;
  }

  -- all memory is allocated before the inputs are read
  pub allocations_first : ¬ (TakesNone command)
      → (status ≡ NoMemory → (after.0 ≡ before.0) × (after.1 ≡ before.1) × (after.2 ≡ before.2))
      → WantsMemory command before after status
  allocations_first takes untouched = record {
    out = λ none. (untouched none).2;
    inputs = λ first none. ((untouched none).0, (untouched none).1);
    never = λ none. absurd (takes none);
  }

  -- memory may be allocated later
  pub allocations_later : ¬ (TakesNone command) → ¬ (TakesFirst command)
      → (status ≡ NoMemory → after.2 ≡ before.2)
      → WantsMemory command before after status
  allocations_later takes later untouched = record {
    out = untouched;
    inputs = λ first. absurd (later first);
    never = λ none. absurd (takes none);
  }

module _ {status : Status} where
  pub wrote_nothing : status ≡ NoMemory → ¬ (MayWrite status)
  wrote_nothing none may = subst MayWrite none may

  pub not_done : ¬ (MayWrite status) → status ≢ Done
  not_done unwritten done = unwritten (subst MayWrite (sym done) tt)

  pub not_cut : ¬ (MayWrite status) → status ≢ WriteFault
  not_cut unwritten cut = unwritten (subst MayWrite (sym cut) tt)

-- a trial that wrote nothing was out of memory
pub only_lacking : (status : Status) → (status ≡ Done) ⊎ (status ≡ WriteFault) ⊎ (status ≡ NoMemory)
    → ¬ (MayWrite status) → status ≡ NoMemory
only_lacking status (inl done) unwritten = absurd (not_done unwritten done)
only_lacking status (inr (inl cut)) unwritten = absurd (not_cut unwritten cut)
only_lacking status (inr (inr none)) unwritten = none
