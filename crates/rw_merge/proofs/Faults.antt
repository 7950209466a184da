-- The fault counts, count by count.
use Rattle.std.proofs.Common.{◌≡◌, ℕ, ◌≤◌, ◌∙◌, refl, arith}
use Rattle.std.specs.Prelude.{Result, Ok, Err, IsErrOf}
use Rattle.cdg_io.specs.Causes.{Rose}
use Rattle.cdg_io.specs.Change.{Change, from_to}
use Rattle.rw_merge.specs.Steps.{CountsFaults, CountsReadFaults, Rises, Stays}
use Rattle.rw_merge.specs.declared.merge.Merged.{Merged}
use Rattle.rw_merge.specs.declared.merge.MergeStop.{MergeStop}
use Rattle.rw_merge.specs.declared.merge.MergeStop.TheVariants.{FirstFault, SecondFault, WriteFault, TooLong, Torn, SecondTorn, Unequal}

-- The count rose if the answer is the fault of its side, and is unchanged otherwise.
pub record IsCounted (A : Type 0) (count : Change ℕ) : Type 0 where
  pub later : count.before ≤ count.after
  pub fault : A → Rose count.before count.after
  pub no_fault : (A → ⊥) → count.after ≡ count.before

risen : {A : Type 0} (count : Change ℕ) → A → Rises count → IsCounted A count
risen count is (later, rose) = record { later = later; fault = λ _. rose; no_fault = λ not. absurd (not is) }

stayed : {A : Type 0} (count : Change ℕ) → (A → ⊥) → Stays count → IsCounted A count
stayed count not same =
    record { later = omega (arith, same); fault = λ is. absurd (not is); no_fault = λ _. same }

pub first_counted : (result : Result Merged MergeStop) (first second out : Change ℕ)
    → CountsFaults result first second out
    → IsCounted (IsErrOf result FirstFault) first
first_counted (Ok merged) first second out (f, s, o) = stayed first (λ e. (cc)) f
first_counted (Err FirstFault) first second out (f, s, o) = risen first refl f
first_counted (Err SecondFault) first second out (f, s, o) = stayed first (λ e. (cc)) f
first_counted (Err WriteFault) first second out (f, s, o) = stayed first (λ e. (cc)) f
first_counted (Err TooLong) first second out (f, s, o) = stayed first (λ e. (cc)) f
first_counted (Err (Torn n)) first second out (f, s, o) = stayed first (λ e. (cc)) f
first_counted (Err (SecondTorn n)) first second out (f, s, o) = stayed first (λ e. (cc)) f
first_counted (Err (Unequal n)) first second out (f, s, o) = stayed first (λ e. (cc)) f

pub second_counted : (result : Result Merged MergeStop) (first second out : Change ℕ)
    → CountsFaults result first second out
    → IsCounted (IsErrOf result SecondFault) second
second_counted (Ok merged) first second out (f, s, o) = stayed second (λ e. (cc)) s
second_counted (Err FirstFault) first second out (f, s, o) = stayed second (λ e. (cc)) s
second_counted (Err SecondFault) first second out (f, s, o) = risen second refl s
second_counted (Err WriteFault) first second out (f, s, o) = stayed second (λ e. (cc)) s
second_counted (Err TooLong) first second out (f, s, o) = stayed second (λ e. (cc)) s
second_counted (Err (Torn n)) first second out (f, s, o) = stayed second (λ e. (cc)) s
second_counted (Err (SecondTorn n)) first second out (f, s, o) = stayed second (λ e. (cc)) s
second_counted (Err (Unequal n)) first second out (f, s, o) = stayed second (λ e. (cc)) s

pub out_counted : (result : Result Merged MergeStop) (first second out : Change ℕ)
    → CountsFaults result first second out
    → IsCounted (IsErrOf result WriteFault) out
out_counted (Ok merged) first second out (f, s, o) = stayed out (λ e. (cc)) o
out_counted (Err FirstFault) first second out (f, s, o) = stayed out (λ e. (cc)) o
out_counted (Err SecondFault) first second out (f, s, o) = stayed out (λ e. (cc)) o
out_counted (Err WriteFault) first second out (f, s, o) = risen out refl o
out_counted (Err TooLong) first second out (f, s, o) = stayed out (λ e. (cc)) o
out_counted (Err (Torn n)) first second out (f, s, o) = stayed out (λ e. (cc)) o
out_counted (Err (SecondTorn n)) first second out (f, s, o) = stayed out (λ e. (cc)) o
out_counted (Err (Unequal n)) first second out (f, s, o) = stayed out (λ e. (cc)) o

-- The last reads of a merge counted all faults, if each count was unchanged until then.
pub counted_last : (A : Type 0) (first first' first'' second second' second'' out out' : ℕ) (stop : MergeStop)
    → first' ≡ first → second' ≡ second → out' ≡ out
    → CountsReadFaults {A = A} (Err stop) (from_to first' first'') (from_to second' second'')
    → CountsFaults (Err stop) (from_to first first'') (from_to second second'') (from_to out out')
counted_last A first first' first'' second second' second'' out out' FirstFault f s o ((later, rose), same) =
    ((omega (arith, f, later), rw f at rose), same ∙ s, o)
counted_last A first first' first'' second second' second'' out out' SecondFault f s o (same, (later, rose)) =
    (same ∙ f, (omega (arith, s, later), rw s at rose), o)
counted_last A first first' first'' second second' second'' out out' WriteFault f s o counts = absurd counts
counted_last A first first' first'' second second' second'' out out' TooLong f s o (same, same') =
    (same ∙ f, same' ∙ s, o)
counted_last A first first' first'' second second' second'' out out' (Torn n) f s o (same, same') =
    (same ∙ f, same' ∙ s, o)
counted_last A first first' first'' second second' second'' out out' (SecondTorn n) f s o (same, same') =
    (same ∙ f, same' ∙ s, o)
counted_last A first first' first'' second second' second'' out out' (Unequal n) f s o (same, same') =
    (same ∙ f, same' ∙ s, o)

pub counted_at_end : (first first' first'' second second' second'' out out' : ℕ)
    (result : Result Merged MergeStop)
    → first' ≡ first → second' ≡ second → out' ≡ out
    → CountsReadFaults result (from_to first' first'') (from_to second' second'')
    → CountsFaults result (from_to first first'') (from_to second second'') (from_to out out')
counted_at_end first first' first'' second second' second'' out out' (Ok merged) f s o (same, same') =
    (same ∙ f, same' ∙ s, o)
counted_at_end first first' first'' second second' second'' out out' (Err stop) f s o counts =
    counted_last Merged first first' first'' second second' second'' out out' stop f s o counts
