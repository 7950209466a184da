-- A loop over the words of readings.
use Rattle.std.proofs.Common.{◌≡◌, ℕ, suc, ◌+◌, ◌*◌, ◌<◌, ◌≤◌, List, [], ◌∷◌, ◌++◌, length, get_or, take, drop, None, refl, sym, ap, ap₂, ◌∙◌, subst, subst₂, arith, length-append, append-nil, below_more}
use Rattle.std.specs.Prelude.{is_none}
use Rattle.std.specs.declared.option.Option.{Option}
use Rattle.std.proofs.lemmas.Grind.{flat_map-append}
use Rattle.std.proofs.lemmas.List.Sums.{count_by-le-length}
use Rattle.std.proofs.lemmas.List.{get_or_append_left, take-append-le, take_all}
use Rattle.std.proofs.Math.Seq.{get_or-append_seam}
use Rattle.std.proofs.lemmas.Slice.{drop-append-drop}
use Rattle.rw_mend.specs.Choice.{IsMending}
use Rattle.rw_mend.specs.Drops.{AreCandidates}
use Rattle.rw_mend.specs.Readings.{programs_in}
use Rattle.rw_mend.specs.Steps.{AreCounted, IsMendedTo}
use Rattle.rw_mend.specs.Streams.{AreCounts, is_mended_by, mended_bytes, mended_text, way_of, ways_of}
use Rattle.rw_mend.specs.declared.streams.MendCounts.{MendCounts}
use Rattle.rw_mend.specs.declared.ways.Way.{Way}
use Rattle.rw_mend.specs.declared.ways.Way.TheVariants.{Both, First, Second, Together}
use Rattle.rw_mend.specs.declared.choice.Mended.{Mended}
use Rattle.rw_mend.specs.declared.readings.Readings.{Readings}
use Rattle.rw_mend.specs.declared.candidates.Candidate.{Candidate}

text_more : (found : List (Option Mended)) (f : Option Mended)
    → mended_text (found ++ f ∷ []) ≡ mended_text found ++ mended_bytes f
text_more found f =
    flat_map-append mended_bytes found (f ∷ [])
    ∙ ap (λ l. mended_text found ++ l) (append-nil (mended_bytes f))

-- one more element at the end of a list
at_end : {X : Type 0} (xs : List X) (x d : X) (n : ℕ) → length xs ≡ n → get_or (xs ++ x ∷ []) n d ≡ x
at_end xs x d n size = ap (λ m. get_or (xs ++ x ∷ []) m d) (sym size) ∙ get_or-append_seam xs x [] d

-- one more word
pub mended_next : (readings : Readings) (words n : ℕ) (before packs new : List ℕ)
    (has has' : List (List Candidate) → List (Option Mended) → Type 0) (candidates : List Candidate)
    (f : Option Mended)
    → IsMendedTo readings words n before packs has
    → AreCandidates words (programs_in readings) n candidates → IsMending candidates f
    → length (mended_bytes f) ≡ 24
    → new ≡ take (24 * n) packs ++ mended_bytes f ++ drop (24 * n + 24) packs
    → ((said : List (List Candidate)) (found : List (Option Mended)) → length said ≡ n → length found ≡ n
    → has said found → has' (said ++ candidates ∷ []) (found ++ f ∷ []))
    → IsMendedTo readings words (n + 1) before new has'
mended_next readings words n before packs new has has' candidates f done said is long new_is more =
    let found = done.found in
    let text = mended_text found in
    let rest = drop (24 * n) before in
    let front : take (24 * n) packs ≡ text =
    ap (take (24 * n)) done.text
    ∙ take-append-le (24 * n) text rest (omega (arith, done.size))
    ∙ take_all (24 * n) text (omega (arith, done.size)) in
    let back : drop (24 * n + 24) packs ≡ drop (24 * (n + 1)) before =
    ap (drop (24 * n + 24)) done.text
    ∙ drop-append-drop (24 * n) before text (24 * n + 24) (omega arith) done.size
    ∙ ap (λ m. drop m before) (omega arith) in
    let all : List (List Candidate) = done.said ++ candidates ∷ [] in
    let all_found : List (Option Mended) = found ++ f ∷ [] in
    let said_before : (k : ℕ) → k < n → get_or done.said k [] ≡ get_or all k [] =
    λ (k : ℕ) (lt : k < n).
    sym (get_or_append_left done.said (candidates ∷ []) [] k (omega (arith, lt, done.said_count))) in
    let found_before : (k : ℕ) → k < n → get_or found k None ≡ get_or all_found k None =
    λ (k : ℕ) (lt : k < n). sym (get_or_append_left found (f ∷ []) None k (omega (arith, lt, done.count))) in
    let said_here = sym (at_end done.said candidates [] n done.said_count) in
    let found_here = sym (at_end found f None n done.count) in
    record {
      said = all;
      found = all_found;
      said_count = length-append done.said (candidates ∷ []) ∙ omega (arith, done.said_count);
      count = length-append found (f ∷ []) ∙ omega (arith, done.count);
      candidates =
          below_more (λ k. AreCandidates words (programs_in readings) k (get_or all k [])) n
          (λ k lt.
          subst (AreCandidates words (programs_in readings) k) (said_before k lt) (done.candidates k lt))
          (subst (AreCandidates words (programs_in readings) n) said_here said);
      each =
          below_more (λ k. IsMending (get_or all k []) (get_or all_found k None)) n
          (λ k lt. subst₂ (λ (x : List Candidate) (y : Option Mended). IsMending x y) (said_before k lt)
          (found_before k lt) (done.each k lt))
          (subst₂ (λ (x : List Candidate) (y : Option Mended). IsMending x y) said_here found_here is);
      size =
          ap length (text_more found f)
          ∙ length-append text (mended_bytes f)
          ∙ omega (arith, done.size, long);
      text =
          new_is
          ∙ ap₂ (λ (a b : List ℕ). a ++ mended_bytes f ++ b) front back
          ∙ ap (λ l. l ++ drop (24 * (n + 1)) before) (sym (text_more found f));
      has_it = more done.said found done.said_count done.count done.has_it;
    }

-- ---- Two readings.

ways_more : (said : List (List Candidate)) (found : List (Option Mended)) (candidates : List Candidate)
    (f : Option Mended)
    → length said ≡ length found
    → ways_of (said ++ candidates ∷ []) (found ++ f ∷ []) ≡ ways_of said found ++ way_of candidates f ∷ []
ways_more [] [] candidates f same = refl
ways_more [] (g ∷ found) candidates f same = absurd (omega (arith, same))
ways_more (v ∷ said) [] candidates f same = absurd (omega (arith, same))
ways_more (v ∷ said) (g ∷ found) candidates f same =
    ap (λ l. way_of v g ∷ l) (ways_more said found candidates f (omega (arith, same)))

pub counted_more : (counts more : MendCounts) (candidates : List Candidate) (f : Option Mended) (n : ℕ)
    → ((all : List (Option Way)) → AreCounts all counts → AreCounts (all ++ way_of candidates f ∷ []) more)
    → (said : List (List Candidate)) (found : List (Option Mended)) → length said ≡ n → length found ≡ n
    → AreCounted counts said found → AreCounted more (said ++ candidates ∷ []) (found ++ f ∷ [])
counted_more counts more candidates f n counted said found said_size size are =
    subst (λ l. AreCounts l more) (sym (ways_more said found candidates f (said_size ∙ sym size)))
    (counted (ways_of said found) are)

pub ways_length : (said : List (List Candidate)) (found : List (Option Mended)) → length said ≡ length found
    → length (ways_of said found) ≡ length found
ways_length [] [] same = refl
ways_length [] (g ∷ found) same = absurd (omega (arith, same))
ways_length (v ∷ said) [] same = absurd (omega (arith, same))
ways_length (v ∷ said) (g ∷ found) same = ap (λ n. suc n) (ways_length said found (omega (arith, same)))

-- no count is higher than the number of words
pub record AreFew (counts : MendCounts) (n : ℕ) : Type 0 where
  pub both : counts.both ≤ n
  pub of_first : counts.of_first ≤ n
  pub of_second : counts.of_second ≤ n
  pub agreed : counts.agreed ≤ n
  pub none : counts.none ≤ n

pub are_few : (readings : Readings) (words n : ℕ) (before packs : List ℕ) (counts : MendCounts)
    → IsMendedTo readings words n before packs (AreCounted counts) → AreFew counts n
are_few readings words n before packs counts done =
    let ways = ways_of done.said done.found in
    let size : length ways ≡ n =
    ways_length done.said done.found (done.said_count ∙ sym done.count) ∙ done.count in
    record {
      both = omega (arith, size, done.has_it.both, count_by-le-length (is_mended_by Both) ways);
      of_first = omega (arith, size, done.has_it.of_first, count_by-le-length (is_mended_by First) ways);
      of_second = omega (arith, size, done.has_it.of_second, count_by-le-length (is_mended_by Second) ways);
      agreed = omega (arith, size, done.has_it.agreed, count_by-le-length (is_mended_by Together) ways);
      none = omega (arith, size, done.has_it.none, count_by-le-length is_none ways);
    }

pub none_done : (readings : Readings) (words : ℕ) (packs : List ℕ)
    (has : List (List Candidate) → List (Option Mended) → Type 0) → has [] []
    → IsMendedTo readings words 0 packs packs has
none_done readings words packs has is = record {
  said = [];
  found = [];
  said_count = refl;
  count = refl;
  candidates = λ k lt. absurd (omega (arith, lt));
  each = λ k lt. absurd (omega (arith, lt));
  size = refl;
  text = refl;
  has_it = is;
}
