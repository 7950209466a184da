-- An error-free codeword of a reading is chosen.
use Rattle.std.proofs.Common.{◌≡◌, ◌⊎◌, ◌==◌, ℕ, zero, suc, ◌<◌, ◌≤◌, Bool, true, false, ◌&&◌, ◌||◌, List, length, get_or, refl, sym, ap, ◌∙◌, subst, inl, inr, arith, Some, None}
use Rattle.std.specs.Prelude.{nat_lt}
use Rattle.std.specs.declared.option.Option.{Option}
use Rattle.std.proofs.lemmas.Bool.{cases_eq, false≢true}
use Rattle.std.proofs.lemmas.Bool.Decides.{eqb_tells, leb_tells}
use Rattle.std.proofs.lemmas.List.{get_or_default}
use Rattle.std.proofs.lemmas.List.Folds.{list_any_at}
use Rattle.std.proofs.lemmas.List.Sums.{AllPass-from_list_all, list_all-from_AllPass}
use Rattle.rw_code.specs.Codeword.{differences}
use Rattle.rw_mend.specs.Choice.{IsFirstBest, IsMending, IsMendedBy, IsOf, is_best, is_near, stands, candidate_of_reading}
use Rattle.rw_mend.specs.Streams.{mended_bytes}
use Rattle.rw_mend.specs.declared.choice.Mended.{Mended}
use Rattle.rw_mend.specs.declared.choice.WordSource.{WordSource}
use Rattle.rw_mend.specs.declared.choice.WordSource.TheVariants.{Reading, Agreed}
use Rattle.rw_mend.specs.declared.candidates.Candidate.{Candidate}
use Rattle.rw_mend.specs.declared.candidates.Candidate.TheVariants.{Silent, Lost, Near}
use Rattle.rw_mend.proofs.Missing.{reported}
use Rattle.rw_mend.proofs.Same.{same_is}

-- ---- Tests.

pub first_holds : (a b : Bool) → a ≡ true → (a || b) ≡ true
first_holds true b is = refl
first_holds false b is = absurd (false≢true is)

pub second_holds : (a b : Bool) → b ≡ true → (a || b) ≡ true
second_holds true b is = refl
second_holds false b is = is

pub both_hold : (a b : Bool) → a ≡ true → b ≡ true → (a && b) ≡ true
both_hold true b is is' = is'
both_hold false b is is' = is

second_of : (a b : Bool) → (a || b) ≡ true → a ≡ false → b ≡ true
second_of true b is fails = absurd (false≢true (sym fails))
second_of false b is fails = is

first_of_both : (a b : Bool) → (a && b) ≡ true → a ≡ true
first_of_both true b is = refl
first_of_both false b is = is

pub test_same : (a b : ℕ) → a ≡ b → (a == b) ≡ true
test_same a b same = elim (eqb_tells a b) [ inl is ↦ is.0 | inr other ↦ absurd (other.1 same) ]

pub same_test : (a b : ℕ) → (a == b) ≡ true → a ≡ b
same_test a b is =
    elim (eqb_tells a b) [ inl same ↦ same.1 | inr other ↦ absurd (false≢true (sym other.0 ∙ is)) ]

pub less : (a b : ℕ) → a < b → nat_lt a b ≡ true
less a b lt = elim (leb_tells (suc a) b) [ inl is ↦ is.0 | inr other ↦ absurd (omega (arith, lt, other.1)) ]

not_less : (a b : ℕ) → b ≤ a → nat_lt a b ≡ false
not_less a b le =
    elim (leb_tells (suc a) b) [ inl is ↦ absurd (omega (arith, le, is.1)) | inr other ↦ other.0 ]

-- the first number that passes a test
pub least : (p : ℕ → Bool) (n : ℕ)
    → ((k : ℕ) × (k < n) × (p k ≡ true) × ((j : ℕ) → j < k → p j ≡ false)) ⊎ ((j : ℕ) → j < n → p j ≡ false)
least p zero = inr (λ j lt. absurd (omega (arith, lt)))
least p (suc n) =
    elim (least p n) [
      | inl found ↦ inl (found.0, omega (arith, found.1), found.2, found.3)
      | inr none ↦
          elim (reported (p n)) [
            | inl here ↦ inl (n, omega arith, here, none)
            | inr fails ↦ inr (λ j lt.
                elim (cases_eq j n) [
                  | inl same ↦ ap p same ∙ fails
                  | inr differs ↦ none j (omega (arith, lt, differs))
                ])
          ]
    ]

-- ---- The candidates of a word.

-- an error-free codeword is at least as good as any candidate that is not another error-free codeword
stands_clean : (candidates : List Candidate) (codeword : List ℕ) (candidate : Candidate)
    → ((other : List ℕ) → candidate ≡ Near other 0 → other ≡ codeword)
    → stands candidates codeword 0 candidate ≡ true
stands_clean candidates codeword Silent only = refl
stands_clean candidates codeword (Lost word) only = refl
stands_clean candidates codeword (Near other more) only =
    elim (cases_eq more 0) [
      | inl none ↦
          let same : other ≡ codeword = only other (ap (Near other) none) in
          second_holds (nat_lt 0 more) _ (both_hold (0 == more) _ (test_same 0 more (sym none))
          (first_holds (differences codeword other == 0) _ (sym (same_is codeword other (sym same)))))
      | inr some ↦ first_holds (nat_lt 0 more) _ (less 0 more (omega (arith, some)))
    ]

clean_is_best : (candidates : List Candidate) (codeword : List ℕ)
    → ((s : ℕ) (other : List ℕ) → s < length candidates → candidate_of_reading candidates s ≡ Near other 0
    → other ≡ codeword)
    → is_best candidates (Near codeword 0) ≡ true
clean_is_best candidates codeword only =
    list_all-from_AllPass (stands candidates codeword 0) candidates (λ s d lt.
    stands_clean candidates codeword (get_or candidates s d) (λ other is.
    only s other lt (get_or_default candidates s Silent d lt ∙ is)))

-- the best candidate is a codeword
pub best_is_near : (candidates : List Candidate) (candidate : Candidate) → is_best candidates candidate ≡ true
    → (pack : List ℕ) × (distance : ℕ) × (candidate ≡ Near pack distance)
best_is_near candidates Silent is = absurd (false≢true is)
best_is_near candidates (Lost word) is = absurd (false≢true is)
best_is_near candidates (Near pack distance) is = (pack, distance, refl)

-- and if one of the candidates is error-free, so is the best
best_is_clean : (candidates : List Candidate) (pack : List ℕ) (distance r : ℕ) (codeword : List ℕ)
    → is_best candidates (Near pack distance) ≡ true → r < length candidates
    → candidate_of_reading candidates r ≡ Near codeword 0 → distance ≡ 0
best_is_clean candidates pack distance r codeword best within is =
    let stands_here : stands candidates pack distance (candidate_of_reading candidates r) ≡ true =
    AllPass-from_list_all (stands candidates pack distance) candidates best r Silent within in
    let beside : stands candidates pack distance (Near codeword 0) ≡ true =
    ap (stands candidates pack distance) (sym is) ∙ stands_here in
    same_test distance 0
    (first_of_both (distance == 0) _
    (second_of (nat_lt distance 0) _ beside (not_less distance 0 (omega arith))))

pub has_first : (candidates : List Candidate) (r : ℕ) → r < length candidates
    → is_best candidates (candidate_of_reading candidates r) ≡ true → (k : ℕ) × IsFirstBest candidates k
has_first candidates r within best =
    elim (least (λ k. is_best candidates (candidate_of_reading candidates k)) (length candidates)) [
      | inl found ↦ (found.0, record { within = found.1; best = found.2; first = found.3 })
      | inr none ↦ absurd (false≢true (sym (none r within) ∙ best))
    ]

pub is_of_near : (candidate : Candidate) (pack : List ℕ) (distance : ℕ) → candidate ≡ Near pack distance
    → IsOf pack candidate
is_of_near candidate pack distance is = subst (IsOf pack) (sym is) refl

pub pack_of : (candidate : Candidate) (pack codeword : List ℕ) (distance : ℕ) → candidate ≡ Near pack distance
    → IsOf codeword candidate
    → pack ≡ codeword
pack_of candidate pack codeword distance is of = subst (IsOf codeword) is of

mended_is : (candidates : List Candidate) (r : ℕ) (codeword : List ℕ) (source : WordSource) (found : List ℕ)
    → r < length candidates
    → candidate_of_reading candidates r ≡ Near codeword 0
    → ((s : ℕ) (other : List ℕ) → s < length candidates → candidate_of_reading candidates s ≡ Near other 0
    → other ≡ codeword)
    → IsMendedBy source candidates found → found ≡ codeword
mended_is candidates r codeword (Reading k) found within is only by =
    let first = by.0 in
    let candidate : Candidate = candidate_of_reading candidates k in
    let near = best_is_near candidates candidate first.best in
    let best : is_best candidates (Near near.0 near.1) ≡ true =
    ap (is_best candidates) (sym near.2) ∙ first.best in
    let clean : near.1 ≡ 0 = best_is_clean candidates near.0 near.1 r codeword best within is in
    sym (pack_of candidate near.0 found near.1 near.2 by.1)
    ∙ only k near.0 first.within (near.2 ∙ ap (Near near.0) clean)
mended_is candidates r codeword Agreed found within is only by =
    absurd (false≢true
    (sym by.0 ∙ list_any_at is_near candidates r Silent within (ap is_near is)))

-- an error-free codeword is chosen, unless another one is a candidate
pub clean_wins : (candidates : List Candidate) (r : ℕ) (codeword : List ℕ) (found : Option Mended)
    → r < length candidates
    → candidate_of_reading candidates r ≡ Near codeword 0
    → ((s : ℕ) (other : List ℕ) → s < length candidates → candidate_of_reading candidates s ≡ Near other 0
    → other ≡ codeword)
    → IsMending candidates found → mended_bytes found ≡ codeword
clean_wins candidates r codeword None within is only none =
    let best : is_best candidates (candidate_of_reading candidates r) ≡ true =
    ap (is_best candidates) is ∙ clean_is_best candidates codeword only in
    let first = has_first candidates r within best in
    let near = best_is_near candidates (candidate_of_reading candidates first.0) first.1.best in
    absurd
    (none (Reading first.0) near.0
    (first.1, is_of_near (candidate_of_reading candidates first.0) near.0 near.1 near.2))
clean_wins candidates r codeword (Some mended) within is only by =
    mended_is candidates r codeword mended.source mended.pack within is only by
