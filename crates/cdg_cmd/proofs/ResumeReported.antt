-- From the answer of a resumed call to the status of a command.
use Rattle.std.proofs.Common.{◌≡◌, ◌≢◌, ◌≤◌, ◌==◌, ◌⊎◌, ℕ, Bool, true, false, List, length, Result, Ok, Err, IfErr, IsErrOf, refl, sym, subst, ◌∙◌, inl, inr, if◌then◌else◌, arith}
use Rattle.std.specs.Prelude.{IsErr}
use Rattle.std.specs.Io.KnownBytes.{Consumes, IsAtEnd}
use Rattle.cdg_io.specs.Causes.{Rose, RoseOnce, ReportsFault}
use Rattle.cdg_checkpoint.specs.Table.{file_size}
use Rattle.cdg_checkpoint.specs.Resumed.{IsAcceptedBy, acceptance}
use Rattle.cdg_checkpoint.specs.declared.stops.Resumed.{Resumed}
use Rattle.cdg_checkpoint.specs.declared.stops.ResumeStop.{ResumeStop}
use Rattle.cdg_checkpoint.specs.declared.stops.ResumeStop.TheVariants as resume
use Rattle.cdg_io.specs.Change.{Input}
use Rattle.cdg_cmd.specs.Checkpoints.{ReadsCheckpoint}
use Rattle.cdg_cmd.specs.Faults.{ReportsFaults}
use Rattle.cdg_cmd.specs.Keeps.{MayWrite}
use Rattle.cdg_cmd.specs.Stops.{resume_status}
use Rattle.cdg_cmd.specs.declared.status.Which.TheVariants.{First, Second}
use Rattle.cdg_cmd.specs.declared.status.Status.{Status}
use Rattle.cdg_cmd.specs.declared.status.Status.TheVariants.{Done, Damaged, Usage, ReadFault, WriteFault, NoMemory}
use Rattle.cdg_cmd.proofs.MergeReported.{none, whole}
use Rattle.cdg_cmd.proofs.Quiet.{count, silent}
use Rattle.cdg_cmd.proofs.Quiet as quiet

-- Faults

module _ (f f' t t' k k' : ℕ) (first_later : f ≤ f') (second_later : t ≤ t') (out_later : k ≤ k') where
  faults : (answer : Result Resumed ResumeStop) → (IsErrOf answer resume.FirstFault → Rose f f')
      → (answer ≢ Err resume.FirstFault → f' ≡ f)
      → (IsErrOf answer resume.SecondFault → Rose t t') → (answer ≢ Err resume.SecondFault → t' ≡ t)
      → (IsErrOf answer resume.WriteFault → Rose k k') → (answer ≢ Err resume.WriteFault → k' ≡ k)
      → ReportsFaults (record { first = count f f'; second = count t t'; out = count k k' })
      (resume_status answer)
  faults (Ok resumed) rose same rises stays cut kept =
      whole f f' t t' k k' first_later second_later out_later (resumed.bad == 0) resumed.bad (same (λ e. cc))
      (stays (λ e. cc)) (kept (λ e. cc))
  faults (Err resume.FirstFault) rose same rises stays cut kept = record {
    first = quiet.reported (ReadFault First) f f' first_later (rose refl);
    second = silent (ReadFault Second) (ReadFault First) t t' second_later (λ e. cc) (stays (λ e. cc));
    out = silent WriteFault (ReadFault First) k k' out_later (λ e. cc) (kept (λ e. cc));
  }
  faults (Err resume.SecondFault) rose same rises stays cut kept = record {
    first = silent (ReadFault First) (ReadFault Second) f f' first_later (λ e. cc) (same (λ e. cc));
    second = quiet.reported (ReadFault Second) t t' second_later (rises refl);
    out = silent WriteFault (ReadFault Second) k k' out_later (λ e. cc) (kept (λ e. cc));
  }
  faults (Err resume.WriteFault) rose same rises stays cut kept = record {
    first = silent (ReadFault First) WriteFault f f' first_later (λ e. cc) (same (λ e. cc));
    second = silent (ReadFault Second) WriteFault t t' second_later (λ e. cc) (stays (λ e. cc));
    out = quiet.reported WriteFault k k' out_later (cut refl);
  }
  faults (Err (resume.BadSave byte)) rose same rises stays cut kept =
      none f f' t t' k k' first_later second_later out_later _ (λ e. cc) (λ e. cc) (λ e. cc) (same (λ e. cc))
      (stays (λ e. cc)) (kept (λ e. cc))
  faults (Err (resume.BeforeSave blocks)) rose same rises stays cut kept =
      none f f' t t' k k' first_later second_later out_later _ (λ e. cc) (λ e. cc) (λ e. cc) (same (λ e. cc))
      (stays (λ e. cc)) (kept (λ e. cc))
  faults (Err (resume.Torn block)) rose same rises stays cut kept =
      none f f' t t' k k' first_later second_later out_later _ (λ e. cc) (λ e. cc) (λ e. cc) (same (λ e. cc))
      (stays (λ e. cc)) (kept (λ e. cc))
  faults (Err resume.TooLong) rose same rises stays cut kept =
      none f f' t t' k k' first_later second_later out_later _ (λ e. cc) (λ e. cc) (λ e. cc) (same (λ e. cc))
      (stays (λ e. cc)) (kept (λ e. cc))
  faults (Err (resume.PastEnd blocks)) rose same rises stays cut kept =
      none f f' t t' k k' first_later second_later out_later _ (λ e. cc) (λ e. cc) (λ e. cc) (same (λ e. cc))
      (stays (λ e. cc)) (kept (λ e. cc))

pub reported : (answer : Result Resumed ResumeStop) (status : Status) (f f' t t' k k' : ℕ)
    → status ≡ resume_status answer → ReportsFault resume.FirstFault f f' answer
    → ReportsFault resume.SecondFault t t' answer
    → ReportsFault resume.WriteFault k k' answer
    → ReportsFaults (record { first = count f f'; second = count t t'; out = count k k' }) status
reported answer status f f' t t' k k' is first second out =
    subst
    (λ (s : Status). ReportsFaults (record { first = count f f'; second = count t t'; out = count k k' }) s)
    (sym is)
    (faults f f' t t' k k' first.later second.later out.later answer first.rose first.same second.rose
    second.same out.rose out.same)

-- The rest is read only after a checkpoint was accepted
module _ {T : Type 0} (x y : T) (at : ℕ) (first : Input) (file : List ℕ) where
  read_file : (answer : Result Resumed ResumeStop) → answer ≢ Err resume.FirstFault
      → IsAcceptedBy (Ok tt) at file
      → (answer ≢ Err resume.FirstFault → Consumes first.left.before first.left.after file)
      → (answer ≢ Err resume.FirstFault → length file ≤ file_size → IsAtEnd first.left.after)
      → (answer ≢ Err resume.FirstFault → length file ≤ file_size
      → RoseOnce first.ends.before first.ends.after)
      → (y ≡ x)
      ⊎ (RoseOnce first.ends.before first.ends.after
      × ((bytes : List ℕ) × ReadsCheckpoint at first.left bytes))
  read_file answer other accepted taken end reported =
      let reads : ReadsCheckpoint at first.left file = record {
        is_file = accepted.0;
        not_later = accepted.1;
        taken = taken other;
        end = end other (omega (arith, accepted.0.size));
      } in
      inr (reported other (omega (arith, accepted.0.size)), (file, reads))

  pub reads_second : (answer : Result Resumed ResumeStop) → (IsErr (acceptance answer) → y ≡ x)
      → IsAcceptedBy (acceptance answer) at file
      → (answer ≢ Err resume.FirstFault → Consumes first.left.before first.left.after file)
      → (answer ≢ Err resume.FirstFault → length file ≤ file_size → IsAtEnd first.left.after)
      → (answer ≢ Err resume.FirstFault → length file ≤ file_size
      → RoseOnce first.ends.before first.ends.after)
      → (y ≡ x)
      ⊎ (RoseOnce first.ends.before first.ends.after
      × ((bytes : List ℕ) × ReadsCheckpoint at first.left bytes))
  reads_second (Err resume.FirstFault) same accepted taken end reported = inl (same refl)
  reads_second (Err (resume.BadSave byte)) same accepted taken end reported = inl (same refl)
  reads_second (Err (resume.BeforeSave blocks)) same accepted taken end reported = inl (same refl)
  reads_second (Ok resumed) same accepted taken end reported =
      read_file (Ok resumed) (λ e. cc) accepted taken end reported
  reads_second (Err resume.SecondFault) same accepted taken end reported =
      read_file (Err resume.SecondFault) (λ e. cc) accepted taken end reported
  reads_second (Err resume.WriteFault) same accepted taken end reported =
      read_file (Err resume.WriteFault) (λ e. cc) accepted taken end reported
  reads_second (Err (resume.Torn block)) same accepted taken end reported =
      read_file (Err (resume.Torn block)) (λ e. cc) accepted taken end reported
  reads_second (Err resume.TooLong) same accepted taken end reported =
      read_file (Err resume.TooLong) (λ e. cc) accepted taken end reported
  reads_second (Err (resume.PastEnd blocks)) same accepted taken end reported =
      read_file (Err (resume.PastEnd blocks)) (λ e. cc) accepted taken end reported

-- If the output may not be written

may_write : (good : Bool) (n : ℕ) → MayWrite (if good then Done else Damaged n)
may_write true n = tt
may_write false n = tt

untouched_at : {K : Type 0} (answer : Result Resumed ResumeStop) (old new : K)
    → IfErr answer (λ stop. stop ≢ resume.WriteFault → new ≡ old) → ¬ (MayWrite (resume_status answer))
    → new ≡ old
untouched_at (Ok resumed) old new same none = absurd (none (may_write (resumed.bad == 0) resumed.bad))
untouched_at (Err resume.WriteFault) old new same none = absurd (none tt)
untouched_at (Err resume.FirstFault) old new same none = same (λ e. cc)
untouched_at (Err resume.SecondFault) old new same none = same (λ e. cc)
untouched_at (Err (resume.BadSave byte)) old new same none = same (λ e. cc)
untouched_at (Err (resume.BeforeSave blocks)) old new same none = same (λ e. cc)
untouched_at (Err (resume.Torn block)) old new same none = same (λ e. cc)
untouched_at (Err resume.TooLong) old new same none = same (λ e. cc)
untouched_at (Err (resume.PastEnd blocks)) old new same none = same (λ e. cc)

pub untouched : {K : Type 0} (answer : Result Resumed ResumeStop) (status : Status) (old new : K)
    → status ≡ resume_status answer
    → IfErr answer (λ stop. stop ≢ resume.WriteFault → new ≡ old) → ¬ (MayWrite status) → new ≡ old
untouched answer status old new is same none =
    untouched_at answer old new same (subst (λ (s : Status). ¬ (MayWrite s)) is none)

-- A resumed call needs no memory, and its words were valid

whole_never : (good : Bool) (n : ℕ)
    → ((if good then Done else Damaged n) ≢ NoMemory) × ((if good then Done else Damaged n) ≢ Usage)
whole_never true n = (λ e. absurd (cc), λ e. absurd (cc))
whole_never false n = (λ e. absurd (cc), λ e. absurd (cc))

never : (answer : Result Resumed ResumeStop)
    → (resume_status answer ≢ NoMemory) × (resume_status answer ≢ Usage)
never (Ok resumed) = whole_never (resumed.bad == 0) resumed.bad
never (Err resume.FirstFault) = (λ e. absurd (cc), λ e. absurd (cc))
never (Err resume.SecondFault) = (λ e. absurd (cc), λ e. absurd (cc))
never (Err resume.WriteFault) = (λ e. absurd (cc), λ e. absurd (cc))
never (Err (resume.BadSave byte)) = (λ e. absurd (cc), λ e. absurd (cc))
never (Err (resume.BeforeSave blocks)) = (λ e. absurd (cc), λ e. absurd (cc))
never (Err (resume.Torn block)) = (λ e. absurd (cc), λ e. absurd (cc))
never (Err resume.TooLong) = (λ e. absurd (cc), λ e. absurd (cc))
never (Err (resume.PastEnd blocks)) = (λ e. absurd (cc), λ e. absurd (cc))

pub never_memory : (answer : Result Resumed ResumeStop) (status : Status) → status ≡ resume_status answer
    → status ≢ NoMemory
never_memory answer status is e = (never answer).0 (sym is ∙ e)

pub never_usage : (answer : Result Resumed ResumeStop) (status : Status) → status ≡ resume_status answer
    → status ≢ Usage
never_usage answer status is e = (never answer).1 (sym is ∙ e)
