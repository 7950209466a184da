-- A codeword is chosen if no other codeword counts, and so are packs that enough readings have.
use Rattle.std.proofs.Common.{◌≡◌, ◌==◌, ℕ, suc, ◌<◌, ◌≤◌, Bool, true, false, List, [], length, get_or, map, refl, sym, ap, ◌∙◌, inl, inr, arith, Some, None}
use Rattle.std.specs.Prelude.{nat_lt}
use Rattle.std.specs.List.{concat, list_any}
use Rattle.std.specs.declared.option.Option.{Option}
use Rattle.std.proofs.lemmas.Bool.{cases_eq, false≢true}
use Rattle.std.proofs.lemmas.Bool.Decides.{leb_tells}
use Rattle.std.proofs.lemmas.List.{ext_get_or, get_or-map, get_or_default, length-map}
use Rattle.std.proofs.lemmas.List.Folds.{list_any_at}
use Rattle.std.proofs.lemmas.List.Sums.{list_all-from_AllPass}
use Rattle.rw_code.specs.Codeword.{differences}
use Rattle.rw_mend.specs.Choice.{IsFirstBest, IsMending, IsMendedBy, is_best, stands, candidate_of_reading}
use Rattle.rw_mend.specs.Drops.{IsDropped, IsSaid}
use Rattle.rw_mend.specs.Laws.{AllGive, AreEnough}
use Rattle.rw_mend.specs.Streams.{AreMended, mended_bytes, mended_text}
use Rattle.rw_mend.specs.Candidates.{is_idle_candidate, is_idle_pack, is_quiet_candidate}
use Rattle.rw_mend.specs.Words.{given_at}
use Rattle.rw_mend.specs.declared.choice.Mended.{Mended}
use Rattle.rw_mend.specs.declared.choice.WordSource.{WordSource}
use Rattle.rw_mend.specs.declared.choice.WordSource.TheVariants.{Reading, Agreed}
use Rattle.rw_mend.specs.declared.candidates.Candidate.{Candidate}
use Rattle.rw_mend.specs.declared.candidates.Candidate.TheVariants.{Silent, Lost, Near}
use Rattle.rw_mend.proofs.Clean.{both_hold, first_holds, has_first, is_of_near, least, less, pack_of, same_test, second_holds, test_same}
use Rattle.rw_mend.proofs.Kept.{doubtful_are, flat_joined, graphics_are, said_kept}
use Rattle.rw_mend.proofs.Missing.{some_passes}
use Rattle.rw_mend.proofs.Once.{best_counts, not_agreed}
use Rattle.rw_mend.proofs.Same.{same_is}

-- whether a candidate is a codeword of this distance
has_distance : ℕ → Candidate → Bool
has_distance d (Near pack distance) = distance == d
has_distance d candidate = false

has_is : (d : ℕ) (candidate : Candidate) → has_distance d candidate ≡ true
    → (pack : List ℕ) × (candidate ≡ Near pack d)
unfolding has_distance
has_is d Silent is = absurd (false≢true is)
has_is d (Lost word) is = absurd (false≢true is)
has_is d (Near pack distance) is = (pack, ap (Near pack) (same_test distance d is))

has_own : (pack : List ℕ) (d : ℕ) → has_distance d (Near pack d) ≡ true
unfolding has_distance
has_own pack d = test_same d d refl

stands_alone : (candidates : List Candidate) (pack : List ℕ) (d : ℕ) (candidate : Candidate)
    → ((other : List ℕ) (more : ℕ) → candidate ≡ Near other more → (other ≡ pack) × (d ≤ more))
    → stands candidates pack d candidate ≡ true
stands_alone candidates pack d Silent only = refl
stands_alone candidates pack d (Lost word) only = refl
stands_alone candidates pack d (Near other more) only =
    let is = only other more refl in
    elim (cases_eq d more) [
      | inl same ↦
          second_holds (nat_lt d more) _ (both_hold (d == more) _ (test_same d more same)
          (first_holds (differences pack other == 0) _ (sym (same_is pack other (sym is.0)))))
      | inr differs ↦ first_holds (nat_lt d more) _ (less d more (omega (arith, is.1, differs)))
    ]

fewest : (candidates : List Candidate) (d s : ℕ) (other : List ℕ) (more : ℕ) → s < length candidates
    → candidate_of_reading candidates s ≡ Near other more
    → ((j : ℕ) → j < d → list_any (has_distance j) candidates ≡ false) → d ≤ more
fewest candidates d s other more lt is none =
    elim (leb_tells d more) [
      | inl fits ↦ fits.1
      | inr fewer ↦
          absurd (false≢true (sym (none more fewer.1)
          ∙ list_any_at (has_distance more) candidates s Silent lt
          (ap (has_distance more) is ∙ has_own other more)))
    ]

has_best : (candidates : List Candidate) (r : ℕ) (codeword : List ℕ) (distance : ℕ) → r < length candidates
    → candidate_of_reading candidates r ≡ Near codeword distance
    → ((s : ℕ) (other : List ℕ) (more : ℕ) → s < length candidates
    → candidate_of_reading candidates s ≡ Near other more
    → other ≡ codeword)
    → (k : ℕ) × (k < length candidates) × (is_best candidates (candidate_of_reading candidates k) ≡ true)
has_best candidates r codeword distance within is only =
    let some : (d : ℕ) → Bool = λ (d : ℕ). list_any (has_distance d) candidates in
    let here : some distance ≡ true =
    list_any_at (has_distance distance) candidates r Silent within
    (ap (has_distance distance) is ∙ has_own codeword distance) in
    elim (least some (suc distance)) [
      | inr none ↦ absurd (false≢true (sym (none distance (omega arith)) ∙ here))
      | inl found ↦
          let at = some_passes (has_distance found.0) candidates Silent found.2 in
          let near = has_is found.0 (candidate_of_reading candidates at.0) at.2 in
          let own : near.0 ≡ codeword = only at.0 near.0 found.0 at.1 near.1 in (
            at.0,
            at.1,
            ap (is_best candidates) near.1
                ∙ list_all-from_AllPass (stands candidates near.0 found.0) candidates (λ s d lt.
                stands_alone candidates near.0 found.0 (get_or candidates s d) (λ other more there.
                let candidate_is : candidate_of_reading candidates s ≡ Near other more =
                get_or_default candidates s Silent d lt ∙ there in (
                  only s other more lt candidate_is ∙ sym own,
                  fewest candidates found.0 s other more lt candidate_is found.3,
                ))),
          )
    ]

of_source : (candidates : List Candidate) (codeword : List ℕ) (source : WordSource) (found : List ℕ) (r : ℕ)
    → IsFirstBest candidates r
    → ((s : ℕ) (other : List ℕ) (more : ℕ) → s < length candidates
    → candidate_of_reading candidates s ≡ Near other more
    → other ≡ codeword)
    → IsMendedBy source candidates found → found ≡ codeword
of_source candidates codeword (Reading k) found r first only by =
    let near = best_counts candidates k by.0 in
    sym (pack_of (candidate_of_reading candidates k) near.0 found near.1 near.2 by.1)
    ∙ only k near.0 near.1 by.0.within near.2
of_source candidates codeword Agreed found r first only by = absurd (not_agreed candidates r found first by)

-- a codeword that counts is chosen if no other codeword counts
pub mended_alone : (candidates : List Candidate) (codeword : List ℕ) (r : ℕ) (distance : ℕ)
    (found : Option Mended)
    → r < length candidates
    → candidate_of_reading candidates r ≡ Near codeword distance
    → ((s : ℕ) (other : List ℕ) (more : ℕ) → s < length candidates
    → candidate_of_reading candidates s ≡ Near other more
    → other ≡ codeword)
    → IsMending candidates found → mended_bytes found ≡ codeword
mended_alone candidates codeword r distance None within is only none =
    let best = has_best candidates r codeword distance within is only in
    let first = has_first candidates best.0 best.1 best.2 in
    let near = best_counts candidates first.0 first.1 in
    absurd
    (none (Reading first.0) near.0
    (first.1, is_of_near (candidate_of_reading candidates first.0) near.0 near.1 near.2))
mended_alone candidates codeword r distance (Some mended) within is only by =
    let best = has_best candidates r codeword distance within is only in
    let first = has_first candidates best.0 best.1 best.2 in
    of_source candidates codeword mended.source mended.pack first.0 first.1 only by

-- ---- Whole streams.

pub one_near : (pack other : List ℕ) (d e : ℕ) → Near pack d ≡ Near other e → pack ≡ other
one_near pack other d e same = cc

pub counted : (words : ℕ) (programs : List (List ℕ)) (n s : ℕ) (candidate : Candidate) (pack : List ℕ)
    (distance : ℕ)
    → IsSaid words programs n s candidate → candidate ≡ Near pack distance
    → (¬ IsDropped words programs s n) × (given_at programs s n ≡ Near pack distance)
counted words programs n s candidate pack distance (inl (dropped, silent)) is = cc
counted words programs n s candidate pack distance (inr (kept, given)) is = (kept, sym given ∙ is)

pub enough_text : (words : ℕ) (programs packs : List (List ℕ)) (said : List (List Candidate))
    (found : List (Option Mended)) → AreEnough words programs packs → AreMended words programs said found
    → mended_text found ≡ concat packs
enough_text words programs packs said found is mended =
    let same : map mended_bytes found ≡ packs =
    ext_get_or [] (map mended_bytes found) packs
    (length-map found mended_bytes ∙ mended.count ∙ sym is.count) (λ n lt.
    let within : n < words = omega (arith, lt, length-map found mended_bytes, mended.count) in
    let candidates : List Candidate = get_or said n [] in
    let are = mended.candidates n within in
    let r : ℕ = is.reading n in
    let here : candidate_of_reading candidates r ≡ Near (get_or packs n []) (is.distance n) =
    said_kept words programs n r (candidate_of_reading candidates r) (are.each r (is.within n within))
    (is.counts n within)
    ∙ is.gives n within in
    get_or-map mended_bytes found n None [] (omega (arith, within, mended.count))
    ∙ mended_alone candidates (get_or packs n []) r (is.distance n) (get_or found n None)
    (omega (arith, is.within n within, are.count)) here
    (λ s other more inside there.
    let reading : s < length programs = omega (arith, inside, are.count) in
    let given =
    counted words programs n s (candidate_of_reading candidates s) other more (are.each s reading) there in
    is.alone n s other more within reading given.0 given.1)
    (mended.each n within)) in
    flat_joined mended_bytes found ∙ ap concat same

-- if all readings have the same packs, no codeword is dropped
none_drops : (words : ℕ) (programs packs : List (List ℕ)) (r n : ℕ) → AllGive words programs packs
    → n < words → r < length programs → ¬ IsDropped words programs r n
none_drops words programs packs r n is here within (inl lacking) =
    let m : ℕ = lacking.lacks.word in
    let lt : m < words = lacking.lacks.within in
    let misses = lacking.lacks.misses in
    let s : ℕ = misses.graphics.reading in
    let busy = graphics_are (given_at programs s m) misses.graphics.graphics in
    let there = is.gives m s lt misses.graphics.within in
    let same : busy.0 ≡ get_or packs m [] =
    one_near busy.0 (get_or packs m []) busy.1 (is.distance m s) (sym busy.2 ∙ there) in
    let idle : is_idle_pack (get_or packs m []) ≡ true =
    ap is_idle_candidate (sym (is.gives m r lt within)) ∙ misses.idle in
    false≢true (sym busy.3 ∙ ap is_idle_pack same ∙ idle)
none_drops words programs packs r n is here within (inr doubted) =
    let odd = doubtful_are (given_at programs r n) doubted.doubtful in
    let same : odd.0 ≡ get_or packs n [] =
    one_near odd.0 (get_or packs n []) odd.1 (is.distance n r) (sym odd.2 ∙ is.gives n r here within) in
    let idle : is_idle_pack (get_or packs n []) ≡ true =
    ap is_quiet_candidate (sym (is.gives n doubted.reading here doubted.within)) ∙ doubted.quiet in
    false≢true (sym odd.3 ∙ ap is_idle_pack same ∙ idle)

pub all_enough : (words : ℕ) (programs packs : List (List ℕ)) → AllGive words programs packs
    → AreEnough words programs packs
all_enough words programs packs is = record {
  reading = λ n. 0;
  distance = λ n. is.distance n 0;
  count = is.count;
  within = λ n lt. is.some;
  counts = λ n lt. none_drops words programs packs 0 n is lt is.some;
  gives = λ n lt. is.gives n 0 lt is.some;
  alone =
      λ n s other more lt within kept given.
      one_near other (get_or packs n []) more (is.distance n s) (sym given ∙ is.gives n s lt within);
}
