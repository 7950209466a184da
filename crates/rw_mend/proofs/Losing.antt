-- The words of readings that are lost, one by one.
use Rattle.std.proofs.Common.{◌≡◌, ℕ, suc, ◌+◌, ◌<◌, ◌≤◌, Bool, false, List, [], ◌∷◌, ◌++◌, length, get_or, replicate, refl, sym, ap, ◌∙◌, inl, inr, arith}
use Rattle.std.specs.Prelude.{count_by, if◌then◌else◌}
use Rattle.std.specs.declared.option.Option.{Option}
use Rattle.std.proofs.lemmas.Bool.Decides.{leb_tells}
use Rattle.std.proofs.lemmas.List.{get_or-replicate, get_or_past}
use Rattle.std.proofs.lemmas.List.Sums.{count_by-le-length}
use Rattle.rw_mend.specs.Choice.{candidate_of_reading}
use Rattle.rw_mend.specs.Losses.{AreLosses, is_lost, losses_of}
use Rattle.rw_mend.specs.declared.choice.Mended.{Mended}
use Rattle.rw_mend.specs.declared.candidates.Candidate.{Candidate}
use Rattle.rw_mend.specs.declared.candidates.Candidate.TheVariants.{Silent}
use Rattle.rw_mend.proofs.Counting.{count_push}
use Rattle.rw_mend.proofs.Missing.{count_case}

losses_push : (r : ℕ) (said : List (List Candidate)) (found : List (Option Mended))
    (candidates : List Candidate)
    (f : Option Mended) → length said ≡ length found
    → losses_of r (said ++ candidates ∷ []) (found ++ f ∷ [])
    ≡ losses_of r said found ++ is_lost f (candidate_of_reading candidates r) ∷ []
losses_push r [] [] candidates f same = refl
losses_push r [] (g ∷ found) candidates f same = absurd (omega (arith, same))
losses_push r (v ∷ said) [] candidates f same = absurd (omega (arith, same))
losses_push r (v ∷ said) (g ∷ found) candidates f same =
    ap (λ l. is_lost g (candidate_of_reading v r) ∷ l)
    (losses_push r said found candidates f (omega (arith, same)))

losses_length : (r : ℕ) (said : List (List Candidate)) (found : List (Option Mended))
    → length said ≡ length found
    → length (losses_of r said found) ≡ length found
losses_length r [] [] same = refl
losses_length r [] (g ∷ found) same = absurd (omega (arith, same))
losses_length r (v ∷ said) [] same = absurd (omega (arith, same))
losses_length r (v ∷ said) (g ∷ found) same =
    ap (λ n. suc n) (losses_length r said found (omega (arith, same)))

one_more : (lost more : ℕ) (marks : List Bool) (b : Bool) → lost ≡ count_by (λ (mark : Bool). mark) marks
    → more ≡ lost + (if b then 1 else 0) → more ≡ count_by (λ (mark : Bool). mark) (marks ++ b ∷ [])
one_more lost more marks b is more_is =
    more_is ∙ ap (λ c. c + (if b then 1 else 0)) is
    ∙ count_case b (count_by (λ (mark : Bool). mark) marks)
    ∙ sym (count_push (λ (mark : Bool). mark) marks b)

-- one more word
pub losses_more : (n : ℕ) (lost more : List ℕ) (candidates : List Candidate) (f : Option Mended)
    → length more ≡ length lost
    → ((r : ℕ) → r < length candidates
    → get_or more r 0 ≡ get_or lost r 0 + (if is_lost f (candidate_of_reading candidates r) then 1 else 0))
    → ((r : ℕ) → length candidates ≤ r → get_or more r 0 ≡ get_or lost r 0)
    → (said : List (List Candidate)) (found : List (Option Mended)) → length said ≡ n → length found ≡ n
    → AreLosses lost said found → AreLosses more (said ++ candidates ∷ []) (found ++ f ∷ [])
losses_more n lost more candidates f size each others said found said_size found_size was = record {
  each =
      λ r lt.
      let marks : List Bool = losses_of r said found in
      let own : Bool = is_lost f (candidate_of_reading candidates r) in
      let counted : get_or more r 0 ≡ get_or lost r 0 + (if own then 1 else 0) =
      elim (leb_tells (suc r) (length candidates)) [
        | inl among ↦ each r (omega (arith, among.1))
        | inr behind ↦
            let past : length candidates ≤ r = omega (arith, behind.1) in
            let none : own ≡ false = ap (is_lost f) (get_or_past candidates r Silent past) in
            others r past ∙ omega arith
            ∙ ap (λ b. get_or lost r 0 + (if b then 1 else 0)) (sym none)
      ] in
      one_more (get_or lost r 0) (get_or more r 0) marks own (was.each r lt) counted
      ∙ ap (λ l. count_by (λ (mark : Bool). mark) l)
      (sym (losses_push r said found candidates f (said_size ∙ sym found_size)));
  kept = size ∙ was.kept;
}

pub few_losses : (n : ℕ) (lost : List ℕ) (said : List (List Candidate)) (found : List (Option Mended)) (r : ℕ)
    → length said ≡ n → length found ≡ n → AreLosses lost said found → r < 254 → get_or lost r 0 ≤ n
few_losses n lost said found r said_size found_size are lt =
    omega (
      arith,
      are.each r lt,
      found_size,
      losses_length r said found (said_size ∙ sym found_size),
      count_by-le-length (λ (mark : Bool). mark) (losses_of r said found),
    )

pub no_losses : AreLosses (replicate 254 0) [] []
no_losses = record { each = λ r lt. get_or-replicate 254 r 0 0 lt; kept = refl }
