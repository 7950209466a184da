-- Statuses at which nothing may be written.
use Rattle.std.proofs.Common.{◌≢◌, refl, sym, subst}
use Rattle.cdg_cmd.specs.Faults.{IsAnswered}
use Rattle.cdg_cmd.specs.Keeps.{MayWrite}
use Rattle.cdg_cmd.specs.declared.status.Which.TheVariants.{First, Second}
use Rattle.cdg_cmd.specs.declared.status.Status.{Status}
use Rattle.cdg_cmd.specs.declared.status.Status.TheVariants.{Done, Damaged, Usage, Refused, Late, ReadFault, WriteFault, NoMemory}

pub answered : (status : Status) → status ≢ Usage → status ≢ ReadFault First → status ≢ ReadFault Second
    → status ≢ WriteFault
    → IsAnswered status
answered Done usage first second write = tt
answered (Damaged n) usage first second write = tt
answered (Refused why) usage first second write = tt
answered (Late picture need free) usage first second write = tt
answered NoMemory usage first second write = tt
answered Usage usage first second write = usage refl
answered (ReadFault First) usage first second write = first refl
answered (ReadFault Second) usage first second write = second refl
answered WriteFault usage first second write = write refl

-- if the output may not be written, the status is not `Done`
pub not_done : (status : Status) → ¬ (MayWrite status) → status ≢ Done
not_done status none e = none (subst MayWrite (sym e) tt)

pub not_cut : (status : Status) → ¬ (MayWrite status) → status ≢ WriteFault
not_cut status none e = none (subst MayWrite (sym e) tt)
