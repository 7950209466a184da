-- Fault counts at a status: which one rose.
use Rattle.std.proofs.Common.{◌≡◌, ◌≢◌, ◌≤◌, ℕ, refl}
use Rattle.cdg_io.specs.Causes.{Rose}
use Rattle.cdg_io.specs.Change.{Change}
use Rattle.cdg_cmd.specs.Faults.{IsReported, ReportsOne}
use Rattle.cdg_cmd.specs.declared.status.Which.TheVariants.{First, Second}
use Rattle.cdg_cmd.specs.declared.status.Status.{Status}
use Rattle.cdg_cmd.specs.declared.status.Status.TheVariants.{Usage, ReadFault, WriteFault}

abbrev pub count : {A : Type 0} → A → A → Change A
count before after = record { before = before; after = after }

-- a status that reports this fault
pub reported : (fault : Status) (n n' : ℕ) → n ≤ n' → Rose n n' → IsReported fault (count n n') fault
reported fault n n' later rose =
    record { later = later; rose = λ e. rose; same = λ other. absurd (other refl) }

-- a status that reports something else
pub silent : (fault status : Status) (n n' : ℕ) → n ≤ n' → status ≢ fault → n' ≡ n
    → IsReported fault (count n n') status
silent fault status n n' later other same =
    record { later = later; rose = λ e. absurd (other e); same = λ e. same }

module _ (f f' k k' : ℕ) (read_later : f ≤ f') (write_later : k ≤ k') where
  -- no fault
  pub none : (status : Status) → status ≢ ReadFault First → status ≢ WriteFault → status ≢ Usage
      → status ≢ ReadFault Second → f' ≡ f → k' ≡ k
      → ReportsOne (count f f') (count k k') status
  none status read write usage second same_read same_write = record {
    read = silent (ReadFault First) status f f' read_later read same_read;
    write = silent WriteFault status k k' write_later write same_write;
    never = (usage, second);
  }

  pub read : Rose f f' → k' ≡ k → ReportsOne (count f f') (count k k') (ReadFault First)
  read rose same = record {
    read = reported (ReadFault First) f f' read_later rose;
    write = silent WriteFault (ReadFault First) k k' write_later (λ e. cc) same;
    never = (λ e. cc, λ e. cc);
  }

  pub write : f' ≡ f → Rose k k' → ReportsOne (count f f') (count k k') WriteFault
  write same rose = record {
    read = silent (ReadFault First) WriteFault f f' read_later (λ e. cc) same;
    write = reported WriteFault k k' write_later rose;
    never = (λ e. cc, λ e. cc);
  }
