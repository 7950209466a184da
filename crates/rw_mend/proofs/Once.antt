-- At most one codeword is mended.
use Rattle.std.proofs.Common.{◌≡◌, ℕ, ◌+◌, ◌<◌, List, [], length, get_or, refl, sym, ap, ap₂, ◌∙◌, subst, inl, inr, arith, Some, None}
use Rattle.std.specs.declared.option.Option.{Option}
use Rattle.std.proofs.lemmas.Bool.{cases_eq, false≢true}
use Rattle.std.proofs.lemmas.Bool.Decides.{leb_tells}
use Rattle.std.proofs.lemmas.List.{ext_get_or}
use Rattle.std.proofs.lemmas.List.Folds.{list_any_at}
use Rattle.rw_mend.specs.Choice.{IsFirstBest, IsMendedBy, IsMending, is_near, candidate_of_reading}
use Rattle.rw_mend.specs.Drops.{AreCandidates, IsSaid}
use Rattle.rw_mend.specs.Streams.{AreMended}
use Rattle.rw_mend.specs.declared.choice.Mended.{Mended}
use Rattle.rw_mend.specs.declared.choice.WordSource.{WordSource}
use Rattle.rw_mend.specs.declared.choice.WordSource.TheVariants.{Reading, Agreed}
use Rattle.rw_mend.specs.declared.candidates.Candidate.{Candidate}
use Rattle.rw_mend.specs.declared.candidates.Candidate.TheVariants.{Silent, Near}
use Rattle.rw_mend.proofs.Clean.{best_is_near, pack_of}

not_sooner : (candidates : List Candidate) (r k : ℕ) → IsFirstBest candidates r → IsFirstBest candidates k
    → ¬ (r < k)
not_sooner candidates r k one other lt = false≢true (sym (other.first r lt) ∙ one.best)

one_first : (candidates : List Candidate) (r k : ℕ) → IsFirstBest candidates r → IsFirstBest candidates k
    → r ≡ k
one_first candidates r k one other =
    elim (cases_eq r k) [
      | inl same ↦ same
      | inr differs ↦
          elim (leb_tells (r + 1) k) [
            | inl sooner ↦ absurd (not_sooner candidates r k one other (omega (arith, sooner.1)))
            | inr later ↦ absurd (not_sooner candidates k r other one (omega (arith, later.1, differs)))
          ]
    ]

pub best_counts : (candidates : List Candidate) (r : ℕ) → IsFirstBest candidates r
    → (pack : List ℕ) × (distance : ℕ) × (candidate_of_reading candidates r ≡ Near pack distance)
best_counts candidates r first = best_is_near candidates (candidate_of_reading candidates r) first.best

pub not_agreed : (candidates : List Candidate) (r : ℕ) (codeword : List ℕ) → IsFirstBest candidates r
    → ¬ IsMendedBy Agreed candidates codeword
not_agreed candidates r codeword first agreed =
    let near = best_counts candidates r first in
    false≢true (sym agreed.0 ∙ list_any_at is_near candidates r Silent first.within (ap is_near near.2))

one_source : (candidates : List Candidate) (source source' : WordSource) (codeword codeword' : List ℕ)
    → IsMendedBy source candidates codeword
    → IsMendedBy source' candidates codeword' → (source ≡ source') × (codeword ≡ codeword')
one_source candidates (Reading r) (Reading k) codeword codeword' one other =
    let same : r ≡ k = one_first candidates r k one.0 other.0 in
    let near = best_counts candidates r one.0 in
    let there : candidate_of_reading candidates k ≡ Near near.0 near.1 =
    ap (candidate_of_reading candidates) (sym same) ∙ near.2 in (
      ap Reading same,
      sym (pack_of (candidate_of_reading candidates r) near.0 codeword near.1 near.2 one.1)
          ∙ pack_of (candidate_of_reading candidates k) near.0 codeword' near.1 there other.1,
    )
one_source candidates (Reading r) Agreed codeword codeword' one other =
    absurd (not_agreed candidates r codeword' one.0 other)
one_source candidates Agreed (Reading k) codeword codeword' one other =
    absurd (not_agreed candidates k codeword other.0 one)
one_source candidates Agreed Agreed codeword codeword' one other = (
  refl,
  other.1.alone one.1.one one.1.other codeword one.1.agreed,
)

-- the candidates of a word have only one result
pub one_found : (candidates : List Candidate) (found other : Option Mended) → IsMending candidates found
    → IsMending candidates other
    → found ≡ other
one_found candidates None None one two = refl
one_found candidates None (Some mended) one two = absurd (one mended.source mended.pack two)
one_found candidates (Some mended) None one two = absurd (two mended.source mended.pack one)
one_found candidates (Some mended) (Some another) one two =
    let same = one_source candidates mended.source another.source mended.pack another.pack one two in
    ap₂ (λ (p : List ℕ) (s : WordSource). Some (record { pack = p; source = s })) same.1 same.0

one_said : (words : ℕ) (programs : List (List ℕ)) (n r : ℕ) (candidate other : Candidate)
    → IsSaid words programs n r candidate → IsSaid words programs n r other → candidate ≡ other
one_said words programs n r candidate other (inl (dropped, is)) (inl (dropped', is')) = is ∙ sym is'
one_said words programs n r candidate other (inl (dropped, is)) (inr (kept, is')) = absurd (kept dropped)
one_said words programs n r candidate other (inr (kept, is)) (inl (dropped, is')) = absurd (kept dropped)
one_said words programs n r candidate other (inr (kept, is)) (inr (kept', is')) = is ∙ sym is'

one_candidates : (words : ℕ) (programs : List (List ℕ)) (n : ℕ) (candidates others : List Candidate)
    → AreCandidates words programs n candidates → AreCandidates words programs n others → candidates ≡ others
one_candidates words programs n candidates others one two =
    ext_get_or Silent candidates others (one.count ∙ sym two.count) (λ r lt.
    let within : r < length programs = omega (arith, lt, one.count) in
    one_said words programs n r (candidate_of_reading candidates r) (candidate_of_reading others r)
    (one.each r within)
    (two.each r within))

-- readings have only one list of results
pub one_list : (words : ℕ) (programs : List (List ℕ)) (said said' : List (List Candidate))
    (found other : List (Option Mended)) → AreMended words programs said found
    → AreMended words programs said' other → found ≡ other
one_list words programs said said' found other one two =
    ext_get_or None found other (one.count ∙ sym two.count) (λ n lt.
    let within : n < words = omega (arith, lt, one.count) in
    let same : get_or said n [] ≡ get_or said' n [] =
    one_candidates words programs n (get_or said n []) (get_or said' n []) (one.candidates n within)
    (two.candidates n within) in
    one_found (get_or said n []) (get_or found n None) (get_or other n None) (one.each n within)
    (subst (λ v. IsMending v (get_or other n None)) (sym same) (two.each n within)))
