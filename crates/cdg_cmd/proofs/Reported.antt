-- The faults that a status reports, of all objects of a call.
use Rattle.std.proofs.Common.{◌≡◌, ◌≢◌, ◌⊎◌, ℕ, Result, Ok, Err, OnOk, OnErr, refl, inl, inr, arith}
use Rattle.std.specs.Io.KnownBytes.{Appends}
use Rattle.cdg_io.specs.Causes.{HasCause}
use Rattle.cdg_io.specs.Moves.{AppendsPrefix}
use Rattle.cdg_io.specs.Change.{Bytes, Change}
use Rattle.cdg_cmd.specs.Faults.{IsReported, ReportsFaults, ReportsOne}
use Rattle.cdg_cmd.specs.Line.{error_line}
use Rattle.cdg_cmd.specs.Reported.{ReportsStatus}
use Rattle.cdg_cmd.specs.declared.status.Which.TheVariants.{First, Second}
use Rattle.cdg_cmd.specs.declared.status.Status.{Status}
use Rattle.cdg_cmd.specs.declared.status.Status.TheVariants.{Done, Usage, ReadFault, WriteFault, NoMemory}
use Rattle.cdg_cmd.proofs.Quiet.{count, silent}

still : (fault status : Status) (n : ℕ) → status ≢ fault → IsReported fault (count n n) status
still fault status n other = silent fault status n n (omega arith) other refl

-- the words were not valid
pub unchanged : (f t k : ℕ)
    → ReportsFaults (record { first = count f f; second = count t t; out = count k k }) Usage
unchanged f t k = record {
  first = still (ReadFault First) Usage f (λ e. cc);
  second = still (ReadFault Second) Usage t (λ e. cc);
  out = still WriteFault Usage k (λ e. cc);
}

-- one input was read
pub of_one : (status : Status) (t : ℕ) (source out : Change ℕ) → ReportsOne source out status
    → ReportsFaults (record { first = source; second = count t t; out = out }) status
of_one status t source out reported =
    record {
      first = reported.read;
      second = still (ReadFault Second) status t reported.never.1;
      out = reported.write;
    }

-- no input was read
pub of_none : (status : Status) (f t : ℕ) (out : Change ℕ) → status ≢ ReadFault First
    → status ≢ ReadFault Second → IsReported WriteFault out status
    → ReportsFaults (record { first = count f f; second = count t t; out = out }) status
of_none status f t out first second reported = record {
  first = still (ReadFault First) status f first;
  second = still (ReadFault Second) status t second;
  out = reported;
}

not_read : (status : Status) → (status ≡ Done) ⊎ (status ≡ WriteFault)
    → (status ≢ ReadFault First) × (status ≢ ReadFault Second)
not_read status (inl is) = (λ e. absurd (cc), λ e. absurd (cc))
not_read status (inr is) = (λ e. absurd (cc), λ e. absurd (cc))

pub of_gen : (status : Status) (f t : ℕ) (out : Change ℕ) → (status ≡ Done) ⊎ (status ≡ WriteFault)
    → IsReported WriteFault out status
    → ReportsFaults (record { first = count f f; second = count t t; out = out }) status
of_gen status f t out is reported =
    of_none status f t out (not_read status is).0 (not_read status is).1 reported

tries_not_read : (status : Status) → (status ≡ Done) ⊎ (status ≡ WriteFault) ⊎ (status ≡ NoMemory)
    → (status ≢ ReadFault First) × (status ≢ ReadFault Second)
tries_not_read status (inl is) = (λ e. absurd (cc), λ e. absurd (cc))
tries_not_read status (inr (inl is)) = (λ e. absurd (cc), λ e. absurd (cc))
tries_not_read status (inr (inr is)) = (λ e. absurd (cc), λ e. absurd (cc))

pub of_trial : (status : Status) (f t : ℕ) (out : Change ℕ)
    → (status ≡ Done) ⊎ (status ≡ WriteFault) ⊎ (status ≡ NoMemory) → IsReported WriteFault out status
    → ReportsFaults (record { first = count f f; second = count t t; out = out }) status
of_trial status f t out is reported =
    of_none status f t out (tries_not_read status is).0 (tries_not_read status is).1 reported

-- the error line of a status was written
pub reports : {E F : Type 0} (held : E → Bytes) (faults : E → ℕ) (before after : E) (status : Status)
    (result : Result (Unit {0}) F) → OnOk result (Appends (held before) (held after) (error_line status))
    → OnErr result (AppendsPrefix (held before) (held after) (error_line status))
    → HasCause (faults before) (faults after) result → (status ≡ Done → after ≡ before)
    → ReportsStatus held faults before after status
reports held faults before after status (Ok done) ok part cause silent =
    record { line = inl (cause.same, ok); silent = silent }
reports held faults before after status (Err fault) ok part cause silent =
    record { line = inr (cause.failed, part); silent = silent }
