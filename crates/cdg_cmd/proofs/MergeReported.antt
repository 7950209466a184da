-- From the answer of a merger to the status of a command.
use Rattle.std.proofs.Common.{◌≡◌, ◌≢◌, ◌≤◌, ◌==◌, ℕ, Bool, true, false, Result, Ok, Err, IsErrOf, refl, sym, subst, ◌∙◌, if◌then◌else◌, arith}
use Rattle.cdg_io.specs.Causes.{Rose, ReportsFault}
use Rattle.rw_merge.specs.declared.merge.Merged.{Merged}
use Rattle.rw_merge.specs.declared.merge.MergeStop.{MergeStop}
use Rattle.rw_merge.specs.declared.merge.MergeStop.TheVariants as merge
use Rattle.cdg_cmd.specs.Faults.{ReportsFaults}
use Rattle.cdg_cmd.specs.Stops.{merge_status}
use Rattle.cdg_cmd.specs.declared.status.Which.TheVariants.{First, Second}
use Rattle.cdg_cmd.specs.declared.status.Status.{Status}
use Rattle.cdg_cmd.specs.declared.status.Status.TheVariants.{Done, Damaged, Usage, ReadFault, WriteFault, NoMemory}
use Rattle.cdg_cmd.proofs.Quiet.{count, silent}
use Rattle.cdg_cmd.proofs.Quiet as quiet

-- Faults

module _ (f f' t t' k k' : ℕ) (first_later : f ≤ f') (second_later : t ≤ t') (out_later : k ≤ k') where
  -- no fault is reported
  pub none : (status : Status) → status ≢ ReadFault First → status ≢ ReadFault Second → status ≢ WriteFault
      → f' ≡ f → t' ≡ t → k' ≡ k
      → ReportsFaults (record { first = count f f'; second = count t t'; out = count k k' }) status
  none status first second write same_first same_second same_out = record {
    first = silent (ReadFault First) status f f' first_later first same_first;
    second = silent (ReadFault Second) status t t' second_later second same_second;
    out = silent WriteFault status k k' out_later write same_out;
  }

  pub whole : (good : Bool) (n : ℕ) → f' ≡ f → t' ≡ t → k' ≡ k
      → ReportsFaults (record { first = count f f'; second = count t t'; out = count k k' })
      (if good then Done else Damaged n)
  whole true n a b d = none Done (λ e. cc) (λ e. cc) (λ e. cc) a b d
  whole false n a b d = none (Damaged n) (λ e. cc) (λ e. cc) (λ e. cc) a b d

  faults : (answer : Result Merged MergeStop) → (IsErrOf answer merge.FirstFault → Rose f f')
      → (answer ≢ Err merge.FirstFault → f' ≡ f)
      → (IsErrOf answer merge.SecondFault → Rose t t') → (answer ≢ Err merge.SecondFault → t' ≡ t)
      → (IsErrOf answer merge.WriteFault → Rose k k') → (answer ≢ Err merge.WriteFault → k' ≡ k)
      → ReportsFaults (record { first = count f f'; second = count t t'; out = count k k' })
      (merge_status answer)
  faults (Ok merged) rose same rises stays cut kept =
      whole (merged.bad == 0) merged.bad (same (λ e. cc)) (stays (λ e. cc)) (kept (λ e. cc))
  faults (Err merge.FirstFault) rose same rises stays cut kept = record {
    first = quiet.reported (ReadFault First) f f' first_later (rose refl);
    second = silent (ReadFault Second) (ReadFault First) t t' second_later (λ e. cc) (stays (λ e. cc));
    out = silent WriteFault (ReadFault First) k k' out_later (λ e. cc) (kept (λ e. cc));
  }
  faults (Err merge.SecondFault) rose same rises stays cut kept = record {
    first = silent (ReadFault First) (ReadFault Second) f f' first_later (λ e. cc) (same (λ e. cc));
    second = quiet.reported (ReadFault Second) t t' second_later (rises refl);
    out = silent WriteFault (ReadFault Second) k k' out_later (λ e. cc) (kept (λ e. cc));
  }
  faults (Err merge.WriteFault) rose same rises stays cut kept = record {
    first = silent (ReadFault First) WriteFault f f' first_later (λ e. cc) (same (λ e. cc));
    second = silent (ReadFault Second) WriteFault t t' second_later (λ e. cc) (stays (λ e. cc));
    out = quiet.reported WriteFault k k' out_later (cut refl);
  }
  faults (Err merge.TooLong) rose same rises stays cut kept =
      none _ (λ e. cc) (λ e. cc) (λ e. cc) (same (λ e. cc)) (stays (λ e. cc)) (kept (λ e. cc))
  faults (Err (merge.Torn block)) rose same rises stays cut kept =
      none _ (λ e. cc) (λ e. cc) (λ e. cc) (same (λ e. cc)) (stays (λ e. cc)) (kept (λ e. cc))
  faults (Err (merge.SecondTorn block)) rose same rises stays cut kept =
      none _ (λ e. cc) (λ e. cc) (λ e. cc) (same (λ e. cc)) (stays (λ e. cc)) (kept (λ e. cc))
  faults (Err (merge.Unequal blocks)) rose same rises stays cut kept =
      none _ (λ e. cc) (λ e. cc) (λ e. cc) (same (λ e. cc)) (stays (λ e. cc)) (kept (λ e. cc))

pub reported : (answer : Result Merged MergeStop) (status : Status) (f f' t t' k k' : ℕ)
    → status ≡ merge_status answer → ReportsFault merge.FirstFault f f' answer
    → ReportsFault merge.SecondFault t t' answer
    → ReportsFault merge.WriteFault k k' answer
    → ReportsFaults (record { first = count f f'; second = count t t'; out = count k k' }) status
reported answer status f f' t t' k k' is first second out =
    subst
    (λ (s : Status). ReportsFaults (record { first = count f f'; second = count t t'; out = count k k' }) s)
    (sym is)
    (faults f f' t t' k k' first.later second.later out.later answer first.rose first.same second.rose
    second.same out.rose out.same)

-- no memory was found, and nothing was done
pub reported_none : (f t k : ℕ)
    → ReportsFaults (record { first = count f f; second = count t t; out = count k k }) NoMemory
reported_none f t k =
    none f f t t k k (omega arith) (omega arith) (omega arith) NoMemory (λ e. cc) (λ e. cc) (λ e. cc) refl
    refl refl

-- A merger needs no memory, and its words were valid

whole_never : (good : Bool) (n : ℕ)
    → ((if good then Done else Damaged n) ≢ NoMemory) × ((if good then Done else Damaged n) ≢ Usage)
whole_never true n = (λ e. absurd (cc), λ e. absurd (cc))
whole_never false n = (λ e. absurd (cc), λ e. absurd (cc))

never : (answer : Result Merged MergeStop) → (merge_status answer ≢ NoMemory) × (merge_status answer ≢ Usage)
never (Ok merged) = whole_never (merged.bad == 0) merged.bad
never (Err merge.FirstFault) = (λ e. absurd (cc), λ e. absurd (cc))
never (Err merge.SecondFault) = (λ e. absurd (cc), λ e. absurd (cc))
never (Err merge.WriteFault) = (λ e. absurd (cc), λ e. absurd (cc))
never (Err merge.TooLong) = (λ e. absurd (cc), λ e. absurd (cc))
never (Err (merge.Torn block)) = (λ e. absurd (cc), λ e. absurd (cc))
never (Err (merge.SecondTorn block)) = (λ e. absurd (cc), λ e. absurd (cc))
never (Err (merge.Unequal blocks)) = (λ e. absurd (cc), λ e. absurd (cc))

pub never_memory : (answer : Result Merged MergeStop) (status : Status) → status ≡ merge_status answer
    → status ≢ NoMemory
never_memory answer status is e = (never answer).0 (sym is ∙ e)

pub never_usage : (answer : Result Merged MergeStop) (status : Status) → status ≡ merge_status answer
    → status ≢ Usage
never_usage answer status is e = (never answer).1 (sym is ∙ e)
