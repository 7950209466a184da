-- Another order of the readings changes only the names of the sources.
use Rattle.std.proofs.Common.{◌≡◌, ◌≢◌, ◌⊎◌, ◌==◌, ℕ, suc, ◌+◌, ◌-◌, ◌/◌, ◌<◌, ◌≤◌, Bool, true, false, ◌&&◌, ◌||◌, List, [], ◌∷◌, length, get_or, map, refl, sym, ap, ap₂, ◌∙◌, subst, subst₂, inl, inr, arith, Some, None}
use Rattle.std.specs.Prelude.{IsPermutation, MatchBool, count_by, if◌then◌else◌, nat_le, nat_lt, not}
use Rattle.std.specs.List.{concat, list_all, list_any, swap}
use Rattle.std.specs.declared.option.Option.{Option}
use Rattle.std.proofs.lemmas.Bool.{cases_eq, false≢true}
use Rattle.std.proofs.lemmas.Bool.Decides.{eqb_tells, leb_tells}
use Rattle.std.proofs.lemmas.List.{ext_get_or, get_or-map, length-map}
use Rattle.std.proofs.lemmas.List.Edits.{length-swap, swapped_from_swap}
use Rattle.std.proofs.lemmas.List.Folds.{list_any_at}
use Rattle.std.proofs.lemmas.List.FromFn.{get_or-map-range_with_len, get_or-range_with_len, length-map-range_with_len, length-range_with_len}
use Rattle.std.proofs.lemmas.List.Sorted.{IsPermutation-keeps, IsPermutation-map, IsPermutation-sym, length_permutation, list_any-IsPermutation, sum_by-IsPermutation}
use Rattle.std.proofs.lemmas.List.Sums.{AllPass-from_list_all, list_all-from_AllPass, sum_by-cons}
use Rattle.bit_lists.specs.Counting.{below, parts}
use Rattle.rw_code.specs.Codeword.{IsCodeword, differences}
use Rattle.rw_code.proofs.Differing.{differences_none}
use Rattle.rw_interleave.specs.Interleave.{whole_packs}
use Rattle.rw_merge.specs.Agreement.{IsAgreed, equally_wrong}
use Rattle.rw_mend.specs.Choice.{AreAgreed, IsAgreedAlone, IsFirstBest, IsMending, IsMendedBy, IsPairAgreed, is_best, is_near, is_of, stands, candidate_of_reading, votes}
use Rattle.rw_mend.specs.Drops.{AreCandidates, HasGraphics, IsBetween, IsDoubted, IsDropCount, IsDropped, IsLacking, IsSaid}
use Rattle.rw_mend.specs.Laws.{IsSameFind, IsSameSource}
use Rattle.rw_mend.specs.Many.{AreAllMendedInto, programs_of, words_in_each}
use Rattle.rw_mend.specs.Streams.{AreMended, mended_bytes, mended_text}
use Rattle.rw_mend.specs.Tallies.{source_byte, source_number}
use Rattle.rw_mend.specs.Candidates.{is_doubtful_candidate, is_graphics_candidate, is_idle_candidate, is_quiet_candidate, candidate_of}
use Rattle.rw_mend.specs.Words.{given_at, program_of, reading_at}
use Rattle.rw_mend.specs.declared.choice.Mended.{Mended}
use Rattle.rw_mend.specs.declared.choice.WordSource.{WordSource}
use Rattle.rw_mend.specs.declared.choice.WordSource.TheVariants.{Reading, Agreed}
use Rattle.rw_mend.specs.declared.tallies.Tallies.{Tallies}
use Rattle.rw_mend.specs.declared.candidates.Candidate.{Candidate}
use Rattle.rw_mend.specs.declared.candidates.Candidate.TheVariants.{Silent, Lost, Near}
use Rattle.rw_mend.proofs.Alone.{counted}
use Rattle.rw_mend.proofs.Clean.{best_is_near, first_holds, has_first, is_of_near, pack_of, same_test, second_holds}
use Rattle.rw_mend.proofs.Damaged.{written}
use Rattle.rw_mend.proofs.Givens.{given_codeword}
use Rattle.rw_mend.proofs.Heaps.{parts_length}
use Rattle.rw_mend.proofs.Kept.{flat_joined, second_of}
use Rattle.rw_mend.proofs.Missing.{either_of, some_passes, reported}
use Rattle.rw_mend.proofs.Once.{best_counts, not_agreed}

-- ---- Permutations of lists.

any_same : {X : Type 0} (f g : X → Bool) (xs : List X) → ((x : X) → f x ≡ g x)
    → list_any f xs ≡ list_any g xs
any_same f g [] same = refl
any_same f g (x ∷ xs) same = ap₂ (λ a b. a || b) (same x) (any_same f g xs same)

all_same : {X : Type 0} (f g : X → Bool) (xs : List X) → ((x : X) → f x ≡ g x)
    → list_all f xs ≡ list_all g xs
all_same f g [] same = refl
all_same f g (x ∷ xs) same = ap₂ (λ a b. a && b) (same x) (all_same f g xs same)

map_same : {X Y : Type 0} (f g : X → Y) (xs : List X) → ((x : X) → f x ≡ g x) → map f xs ≡ map g xs
map_same f g [] same = refl
map_same f g (x ∷ xs) same = ap₂ (λ y ys. y ∷ ys) (same x) (map_same f g xs same)

none_fail : (a b c : Bool) → b ≡ not c → (a && b) ≡ not (not a || c)
none_fail true b c is = is
none_fail false b c is = refl

all_is_none : {X : Type 0} (p : X → Bool) (xs : List X) → list_all p xs ≡ not (list_any (λ x. not (p x)) xs)
all_is_none p [] = refl
all_is_none p (x ∷ xs) = none_fail (p x) (list_all p xs) (list_any (λ x. not (p x)) xs) (all_is_none p xs)

all_reordered : {X : Type 0} (p : X → Bool) (xs ys : List X) → IsPermutation xs ys
    → list_all p xs ≡ list_all p ys
all_reordered p xs ys is =
    all_is_none p xs ∙ ap not (list_any-IsPermutation (λ x. not (p x)) xs ys is) ∙ sym (all_is_none p ys)

count_reordered : {X : Type 0} (p : X → Bool) (xs ys : List X) → IsPermutation xs ys
    → count_by p xs ≡ count_by p ys
count_reordered p xs ys is = sym (sum_by-IsPermutation (λ x. if p x then 1 else 0) xs ys is)

-- ---- The candidates, as a function of a reading and of all readings.

pub between_by : ℕ → ℕ → ℕ → Bool
between_by n m k = (nat_le n k && nat_le k m) || (nat_le m k && nat_le k n)

abbrev pub busy : List (List ℕ) → ℕ → Bool
busy programs m = list_any (λ program. is_graphics_candidate (candidate_of (reading_at program m))) programs

abbrev pub quiet_by : List ℕ → ℕ → ℕ → ℕ → Bool
quiet_by program n m k = not (between_by n m k) || is_quiet_candidate (candidate_of (reading_at program k))

abbrev pub lacks_by : ℕ → List (List ℕ) → List ℕ → ℕ → ℕ → Bool
lacks_by words programs program n m = list_all (quiet_by program n m) (below words)
    && (is_idle_candidate (candidate_of (reading_at program m)) && busy programs m)

abbrev pub lacking_by : ℕ → List (List ℕ) → ℕ → List ℕ → Bool
lacking_by words programs n program = is_idle_candidate (candidate_of (reading_at program n))
    && list_any (lacks_by words programs program n) (below words)

abbrev pub some_quiet : List (List ℕ) → ℕ → Bool
some_quiet programs n =
    list_any (λ program. is_quiet_candidate (candidate_of (reading_at program n))) programs

abbrev pub doubted_by : List (List ℕ) → ℕ → List ℕ → Bool
doubted_by programs n program =
    is_doubtful_candidate (candidate_of (reading_at program n)) && some_quiet programs n

abbrev pub left_out : ℕ → List (List ℕ) → ℕ → List ℕ → Bool
left_out words programs n program = lacking_by words programs n program || doubted_by programs n program

abbrev pub says : ℕ → List (List ℕ) → ℕ → List ℕ → Candidate
says words programs n program =
    if left_out words programs n program then Silent else candidate_of (reading_at program n)

both : (a b : Bool) → a ≡ true → b ≡ true → (a && b) ≡ true
both true b is is' = is'
both false b is is' = is

both_of : (a b : Bool) → (a && b) ≡ true → (a ≡ true) × (b ≡ true)
both_of true b is = (refl, is)
both_of false b is = absurd (false≢true is)

at_most : (a b : ℕ) → a ≤ b → nat_le a b ≡ true
at_most a b le = elim (leb_tells a b) [ inl is ↦ is.0 | inr other ↦ absurd (omega (arith, le, other.1)) ]

is_at_most : (a b : ℕ) → nat_le a b ≡ true → a ≤ b
is_at_most a b is =
    elim (leb_tells a b) [ inl le ↦ le.1 | inr other ↦ absurd (false≢true (sym other.0 ∙ is)) ]

between_true : (n m k : ℕ) → IsBetween n m k → between_by n m k ≡ true
unfolding between_by
between_true n m k (inl after) =
    first_holds (nat_le n k && nat_le k m) _
    (both (nat_le n k) (nat_le k m) (at_most n k after.0) (at_most k m after.1))
between_true n m k (inr before) =
    second_holds (nat_le n k && nat_le k m) _
    (both (nat_le m k) (nat_le k n) (at_most m k before.0) (at_most k n before.1))

between_is : (n m k : ℕ) → between_by n m k ≡ true → IsBetween n m k
unfolding between_by
between_is n m k is =
    elim (either_of (nat_le n k && nat_le k m) (nat_le m k && nat_le k n) is) [
      | inl after ↦
          let parts = both_of (nat_le n k) (nat_le k m) after in
          inl (is_at_most n k parts.0, is_at_most k m parts.1)
      | inr before ↦
          let parts = both_of (nat_le m k) (nat_le k n) before in
          inr (is_at_most m k parts.0, is_at_most k n parts.1)
    ]

quiet_true : (program : List ℕ) (n m k : ℕ)
    → (IsBetween n m k → is_quiet_candidate (candidate_of (reading_at program k)) ≡ true)
    → quiet_by program n m k ≡ true
quiet_true program n m k quiet =
    elim (reported (between_by n m k)) [
      | inl between ↦ second_holds (not (between_by n m k)) _ (quiet (between_is n m k between))
      | inr apart ↦ first_holds (not (between_by n m k)) _ (ap not apart)
    ]

quiet_is : (program : List ℕ) (n m k : ℕ) → quiet_by program n m k ≡ true → IsBetween n m k
    → is_quiet_candidate (candidate_of (reading_at program k)) ≡ true
quiet_is program n m k is between =
    second_of (not (between_by n m k)) _ is (ap not (between_true n m k between))

at_word : (words m : ℕ) → m < words → get_or (below words) m 0 ≡ m
at_word words m lt = get_or-range_with_len 0 words m 0 lt ∙ omega arith

any_busy : (programs : List (List ℕ)) (m : ℕ) → HasGraphics programs m → busy programs m ≡ true
any_busy programs m graphics =
    list_any_at (λ p. is_graphics_candidate (candidate_of (reading_at p m))) programs graphics.reading []
    graphics.within
    graphics.graphics

lacking_true : (words : ℕ) (programs : List (List ℕ)) (r n : ℕ) → IsLacking words programs r n
    → lacking_by words programs n (get_or programs r []) ≡ true
lacking_true words programs r n lacking =
    let program : List ℕ = get_or programs r [] in
    let m : ℕ = lacking.lacks.word in
    let size : length (below words) ≡ words = length-range_with_len 0 words in
    let silence : list_all (quiet_by program n m) (below words) ≡ true =
    list_all-from_AllPass (quiet_by program n m) (below words) (λ k d lt.
    let within : k < words = omega (arith, lt, size) in
    let here : get_or (below words) k d ≡ k = get_or-range_with_len 0 words k d within ∙ omega arith in
    ap (quiet_by program n m) here ∙ quiet_true program n m k (lacking.lacks.quiet k within)) in
    let there : lacks_by words programs program n m ≡ true =
    both (list_all (quiet_by program n m) (below words)) _ silence
    (both (is_idle_candidate (candidate_of (reading_at program m))) (busy programs m)
    lacking.lacks.misses.idle
    (any_busy programs m lacking.lacks.misses.graphics)) in
    both (is_idle_candidate (candidate_of (reading_at program n))) _ lacking.idle
    (list_any_at (lacks_by words programs program n) (below words) m 0
    (omega (arith, lacking.lacks.within, size))
    (ap (lacks_by words programs program n) (at_word words m lacking.lacks.within) ∙ there))

lacking_is : (words : ℕ) (programs : List (List ℕ)) (r n : ℕ)
    → lacking_by words programs n (get_or programs r []) ≡ true → IsLacking words programs r n
lacking_is words programs r n is =
    let program : List ℕ = get_or programs r [] in
    let parts =
    both_of (is_idle_candidate (candidate_of (reading_at program n)))
    (list_any (lacks_by words programs program n) (below words)) is in
    let size : length (below words) ≡ words = length-range_with_len 0 words in
    let found = some_passes (lacks_by words programs program n) (below words) 0 parts.1 in
    let m : ℕ = found.0 in
    let within : m < words = omega (arith, found.1, size) in
    let here : lacks_by words programs program n m ≡ true =
    ap (lacks_by words programs program n) (sym (at_word words m within)) ∙ found.2 in
    let tests =
    both_of (list_all (quiet_by program n m) (below words))
    (is_idle_candidate (candidate_of (reading_at program m)) && busy programs m) here in
    let missed =
    both_of (is_idle_candidate (candidate_of (reading_at program m))) (busy programs m) tests.1 in
    let graphics =
    some_passes (λ p. is_graphics_candidate (candidate_of (reading_at p m))) programs [] missed.1 in
    record {
      idle = parts.0;
      lacks = record {
        word = m;
        within = within;
        quiet =
            λ k lt between.
            quiet_is program n m k
            (ap (quiet_by program n m) (sym (at_word words k lt))
            ∙ AllPass-from_list_all (quiet_by program n m) (below words) tests.0 k 0
            (omega (arith, lt, size)))
            between;
        misses = record {
          idle = missed.0;
          graphics = record { reading = graphics.0; within = graphics.1; graphics = graphics.2 };
        };
      };
    }

doubted_true : (programs : List (List ℕ)) (r n : ℕ) → IsDoubted programs r n
    → doubted_by programs n (get_or programs r []) ≡ true
doubted_true programs r n doubted =
    both (is_doubtful_candidate (candidate_of (reading_at (get_or programs r []) n))) (some_quiet programs n)
    doubted.doubtful
    (list_any_at (λ p. is_quiet_candidate (candidate_of (reading_at p n))) programs doubted.reading []
    doubted.within
    doubted.quiet)

doubted_is : (programs : List (List ℕ)) (r n : ℕ) → doubted_by programs n (get_or programs r []) ≡ true
    → IsDoubted programs r n
doubted_is programs r n is =
    let parts =
    both_of (is_doubtful_candidate (candidate_of (reading_at (get_or programs r []) n)))
    (some_quiet programs n) is in
    let found = some_passes (λ p. is_quiet_candidate (candidate_of (reading_at p n))) programs [] parts.1 in
    record { doubtful = parts.0; reading = found.0; within = found.1; quiet = found.2 }

left_true : (words : ℕ) (programs : List (List ℕ)) (r n : ℕ) → IsDropped words programs r n
    → left_out words programs n (get_or programs r []) ≡ true
left_true words programs r n (inl lacking) =
    first_holds (lacking_by words programs n (get_or programs r [])) _
    (lacking_true words programs r n lacking)
left_true words programs r n (inr doubted) =
    second_holds (lacking_by words programs n (get_or programs r [])) _ (doubted_true programs r n doubted)

left_dropped : (words : ℕ) (programs : List (List ℕ)) (r n : ℕ)
    → left_out words programs n (get_or programs r []) ≡ true → IsDropped words programs r n
left_dropped words programs r n is =
    elim (either_of (lacking_by words programs n (get_or programs r []))
    (doubted_by programs n (get_or programs r [])) is) [
      | inl lacking ↦ inl (lacking_is words programs r n lacking)
      | inr doubted ↦ inr (doubted_is programs r n doubted)
    ]

says_is : (words : ℕ) (programs : List (List ℕ)) (n r : ℕ) (candidate : Candidate)
    → IsSaid words programs n r candidate → candidate ≡ says words programs n (get_or programs r [])
says_is words programs n r candidate (inl (dropped, silent)) =
    silent
    ∙ sym (ap (λ b. if b then Silent else given_at programs r n) (left_true words programs r n dropped))
says_is words programs n r candidate (inr (kept, given)) =
    elim (reported (left_out words programs n (get_or programs r []))) [
      | inl left ↦ absurd (kept (left_dropped words programs r n left))
      | inr stays ↦ given ∙ sym (ap (λ b. if b then Silent else given_at programs r n) stays)
    ]

pub candidates_are : (words : ℕ) (programs : List (List ℕ)) (n : ℕ) (candidates : List Candidate)
    → AreCandidates words programs n candidates → candidates ≡ map (says words programs n) programs
candidates_are words programs n candidates are =
    ext_get_or Silent candidates (map (says words programs n) programs)
    (are.count ∙ sym (length-map programs (says words programs n))) (λ r lt.
    let within : r < length programs = omega (arith, lt, are.count) in
    says_is words programs n r (candidate_of_reading candidates r) (are.each r within)
    ∙ sym (get_or-map (says words programs n) programs r [] Silent within))

left_same : (words : ℕ) (programs others : List (List ℕ)) (n : ℕ) → IsPermutation programs others
    → (program : List ℕ) → left_out words others n program ≡ left_out words programs n program
left_same words programs others n is program =
    let graphics : (m : ℕ) → busy others m ≡ busy programs m =
    λ m.
    sym (list_any-IsPermutation (λ p. is_graphics_candidate (candidate_of (reading_at p m))) programs others
    is) in
    let quiet : some_quiet others n ≡ some_quiet programs n =
    sym
    (list_any-IsPermutation (λ p. is_quiet_candidate (candidate_of (reading_at p n))) programs others is) in
    let lacks : list_any (lacks_by words others program n) (below words)
    ≡ list_any (lacks_by words programs program n) (below words) =
    any_same (lacks_by words others program n) (lacks_by words programs program n) (below words) (λ m.
    ap (λ b. list_all (quiet_by program n m) (below words)
    && (is_idle_candidate (candidate_of (reading_at program m)) && b)) (graphics m)) in
    ap₂ (λ a b. (is_idle_candidate (candidate_of (reading_at program n)) && a)
    || (is_doubtful_candidate (candidate_of (reading_at program n)) && b)) lacks quiet

pub says_same : (words : ℕ) (programs others : List (List ℕ)) (n : ℕ) → IsPermutation programs others
    → (program : List ℕ) → says words others n program ≡ says words programs n program
says_same words programs others n is program =
    ap (λ b. if b then Silent else candidate_of (reading_at program n))
    (left_same words programs others n is program)

pub said_reordered : (words : ℕ) (programs others : List (List ℕ)) (n : ℕ)
    (candidates candidates' : List Candidate)
    → IsPermutation programs others → AreCandidates words programs n candidates
    → AreCandidates words others n candidates'
    → IsPermutation candidates candidates'
said_reordered words programs others n candidates candidates' is are are' =
    subst₂ (λ a b. IsPermutation a b) (sym (candidates_are words programs n candidates are))
    (map_same (says words programs n) (says words others n) others
    (λ p. sym (says_same words programs others n is p))
    ∙ sym (candidates_are words others n candidates' are'))
    (IsPermutation-map (says words programs n) programs others is)

-- ---- The best candidate.

pub votes_same : (vs ws : List Candidate) (pack : List ℕ) → IsPermutation vs ws
    → votes vs pack ≡ votes ws pack
votes_same vs ws pack is = count_reordered (is_of pack) vs ws is

stands_same : (vs ws : List Candidate) (pack : List ℕ) (d : ℕ) → IsPermutation vs ws → (candidate : Candidate)
    → stands vs pack d candidate ≡ stands ws pack d candidate
stands_same vs ws pack d is Silent = refl
stands_same vs ws pack d is (Lost word) = refl
stands_same vs ws pack d is (Near other more) =
    ap₂ (λ a b. nat_lt d more || ((d == more) && ((differences pack other == 0) || nat_lt a b)))
    (votes_same vs ws other is) (votes_same vs ws pack is)

best_same : (vs ws : List Candidate) → IsPermutation vs ws → (candidate : Candidate)
    → is_best vs candidate ≡ is_best ws candidate
best_same vs ws is Silent = refl
best_same vs ws is (Lost word) = refl
best_same vs ws is (Near pack d) =
    all_same (stands vs pack d) (stands ws pack d) vs (stands_same vs ws pack d is)
    ∙ all_reordered (stands ws pack d) vs ws is

first_best : (vs ws : List Candidate) (r : ℕ) → IsPermutation vs ws → IsFirstBest vs r
    → (k : ℕ) × IsFirstBest ws k
first_best vs ws r is first =
    let here : is_best ws (candidate_of_reading vs r) ≡ true =
    sym (best_same vs ws is (candidate_of_reading vs r)) ∙ first.best in
    let some : list_any (is_best ws) ws ≡ true =
    sym (list_any-IsPermutation (is_best ws) vs ws is)
    ∙ list_any_at (is_best ws) vs r Silent first.within here in
    let found = some_passes (is_best ws) ws Silent some in
    has_first ws found.0 found.1 found.2

-- of two candidates of which each is at least as good as the other, none is better
fewer : (d e : ℕ) (b : Bool) → (nat_lt d e || ((d == e) && b)) ≡ true → (d < e) ⊎ ((d ≡ e) × (b ≡ true))
fewer d e b is =
    elim (leb_tells (suc d) e) [
      | inl less ↦ inl (omega (arith, less.1))
      | inr more ↦
          let parts = both_of (d == e) b (ap (λ t. t || ((d == e) && b)) (sym more.0) ∙ is) in
          inr (same_test d e parts.0, parts.1)
    ]

one_or_less : (same : Bool) (a b : ℕ) → (same || nat_lt a b) ≡ true → (same ≡ true) ⊎ (a < b)
one_or_less true a b is = inl refl
one_or_less false a b is =
    elim (leb_tells (suc a) b) [
      | inl less ↦ inr (omega (arith, less.1))
      | inr more ↦ absurd (false≢true (sym more.0 ∙ is))
    ]

same_codeword : (one other : List ℕ) → IsCodeword one → IsCodeword other → (differences one other == 0) ≡ true
    → one ≡ other
same_codeword one other codeword codeword' none =
    differences_none one other (codeword.is_word.size ∙ sym codeword'.is_word.size)
    (same_test (differences one other) 0 none)

even : (vs : List Candidate) (p q : List ℕ) (d e : ℕ) → IsCodeword p → IsCodeword q
    → stands vs p d (Near q e) ≡ true → stands vs q e (Near p d) ≡ true → (p ≡ q) × (d ≡ e)
even vs p q d e codeword codeword' one two =
    elim (fewer d e _ one) [
      | inl less ↦
          elim (fewer e d _ two) [
            | inl more ↦ absurd (omega (arith, less, more))
            | inr same ↦ absurd (omega (arith, less, same.0))
          ]
      | inr as_few ↦
          elim (one_or_less (differences p q == 0) (votes vs q) (votes vs p) as_few.1) [
            | inl same ↦ (same_codeword p q codeword codeword' same, as_few.0)
            | inr less ↦
                elim (fewer e d _ two) [
                  | inl more ↦ absurd (omega (arith, as_few.0, more))
                  | inr as_few' ↦
                      elim (one_or_less (differences q p == 0) (votes vs p) (votes vs q) as_few'.1) [
                        | inl same ↦ (sym (same_codeword q p codeword' codeword same), as_few.0)
                        | inr more ↦ absurd (omega (arith, less, more))
                      ]
                ]
          ]
    ]

-- the codewords among some candidates are codewords
abbrev pub AreCodewords : List Candidate → Type 0
AreCodewords candidates = (r : ℕ) (pack : List ℕ) (distance : ℕ) → r < length candidates
    → candidate_of_reading candidates r ≡ Near pack distance → IsCodeword pack

-- both candidates are the same codeword, with the same distance
pub record IsSameCandidate (vs ws : List Candidate) (r k : ℕ) : Type 0 where
  pub pack : List ℕ
  pub distance : ℕ
  pub within : r < length vs
  pub within' : k < length ws
  pub one : candidate_of_reading vs r ≡ Near pack distance
  pub other : candidate_of_reading ws k ≡ Near pack distance

same_best : (vs ws : List Candidate) (r k : ℕ) → IsPermutation vs ws → AreCodewords vs → AreCodewords ws
    → IsFirstBest vs r → IsFirstBest ws k → IsSameCandidate vs ws r k
same_best vs ws r k is codewords codewords' first first' =
    let one = best_is_near vs (candidate_of_reading vs r) first.best in
    let other = best_is_near ws (candidate_of_reading ws k) first'.best in
    let p : List ℕ = one.0 in
    let q : List ℕ = other.0 in
    let d : ℕ = one.1 in
    let e : ℕ = other.1 in
    let best : is_best vs (Near p d) ≡ true = ap (is_best vs) (sym one.2) ∙ first.best in
    let best' : is_best ws (Near q e) ≡ true = ap (is_best ws) (sym other.2) ∙ first'.best in
    let beside : stands vs p d (Near q e) ≡ true =
    stands_same vs ws p d is (Near q e)
    ∙ ap (stands ws p d) (sym other.2)
    ∙ AllPass-from_list_all (stands ws p d) ws (sym (best_same vs ws is (Near p d)) ∙ best) k Silent
    first'.within in
    let beside' : stands vs q e (Near p d) ≡ true =
    ap (stands vs q e) (sym one.2)
    ∙ AllPass-from_list_all (stands vs q e) vs (best_same vs ws is (Near q e) ∙ best') r Silent
    first.within in
    let same = even vs p q d e (codewords r p d first.within one.2) (codewords' k q e first'.within other.2)
    beside beside' in
    record {
      pack = p;
      distance = d;
      within = first.within;
      within' = first'.within;
      one = one.2;
      other = other.2 ∙ ap₂ Near (sym same.0) (sym same.1);
    }

-- ---- The codewords on which two candidates agree.

test_no : (a b : ℕ) → a ≢ b → (a == b) ≡ false
test_no a b differ =
    elim (eqb_tells a b) [ inl is ↦ absurd (differ is.1) | inr other ↦ other.0 ]

turned_test : (a b : ℕ) (one other : ℕ) → (if a == b then one else other) ≡ (if b == a then one else other)
turned_test a b one other =
    let f : ℕ → ℕ → ℕ = λ (x y : ℕ). if x == y then one else other in
    elim (cases_eq a b) [
      | inl same ↦ ap₂ f same (sym same)
      | inr differ ↦
          ap (λ t. if t then one else other) (test_no a b differ)
          ∙ sym (ap (λ t. if t then one else other) (test_no b a (λ e. differ (sym e))))
    ]

abbrev one_wrong : ℕ → ℕ → ℕ → ℕ
one_wrong a b c = if a == b then (if a == c then 0 else 1) else 0

turned_wrong : (a b c : ℕ) → one_wrong a b c ≡ one_wrong b a c
turned_wrong a b c =
    let f : ℕ → ℕ → ℕ = λ (x y : ℕ). one_wrong x y c in
    elim (cases_eq a b) [
      | inl same ↦ ap₂ f same (sym same)
      | inr differ ↦
          ap (λ (t : Bool). if t then (if a == c then 0 else 1) else 0) (test_no a b differ)
          ∙ sym
          (ap (λ (t : Bool). if t then (if b == c then 0 else 1) else 0) (test_no b a (λ e. differ (sym e))))
    ]

differences_other : (xs ys : List ℕ) → differences xs ys ≡ differences ys xs
unfolding differences
differences_other [] [] = refl
differences_other [] (y ∷ ys) = refl
differences_other (x ∷ xs) [] = refl
differences_other (x ∷ xs) (y ∷ ys) = ap₂ (λ a b. a + b) (turned_test x y 0 1) (differences_other xs ys)

wrong_other : (xs ys zs : List ℕ) → equally_wrong xs ys zs ≡ equally_wrong ys xs zs
unfolding equally_wrong
wrong_other [] [] zs = refl
wrong_other [] (y ∷ ys) zs = refl
wrong_other (x ∷ xs) [] zs = refl
wrong_other (x ∷ xs) (y ∷ ys) [] = refl
wrong_other (x ∷ xs) (y ∷ ys) (z ∷ zs) = ap₂ (λ a b. a + b) (turned_wrong x y z) (wrong_other xs ys zs)

agreed_other : (first second codeword : List ℕ) → IsAgreed first second codeword
    → IsAgreed second first codeword
agreed_other first second codeword is = record {
  is_codeword = is.is_codeword;
  few = omega (arith, is.few, differences_other first second, wrong_other first second codeword);
}

are_agreed_other : (one other : Candidate) (codeword : List ℕ) → AreAgreed one other codeword
    → AreAgreed other one codeword
are_agreed_other (Lost first) (Lost second) codeword is = agreed_other first second codeword is
are_agreed_other Silent other codeword is = absurd is
are_agreed_other (Near pack distance) other codeword is = absurd is
are_agreed_other (Lost first) Silent codeword is = absurd is
are_agreed_other (Lost first) (Near pack distance) codeword is = absurd is

-- some pair of candidates agrees on a codeword
pub record HasPair (candidates : List Candidate) (codeword : List ℕ) : Type 0 where
  pub i : ℕ
  pub j : ℕ
  pub is : IsPairAgreed candidates i j codeword

-- the place of an element after an exchange
abbrev IsMoved : ℕ → ℕ → ℕ → ℕ → Type 0
IsMoved i j m to = ((m ≡ i) × (to ≡ j)) ⊎ (((m ≢ i) × (m ≡ j) × (to ≡ i)) ⊎ ((m ≢ i) × (m ≢ j) × (to ≡ m)))

moved : (i j m : ℕ) → (to : ℕ) × IsMoved i j m to
moved i j m =
    elim (cases_eq m i) [
      | inl first ↦ (j, inl (first, refl))
      | inr other ↦
          elim (cases_eq m j) [
            | inl second ↦ (i, inr (inl (other, second, refl)))
            | inr neither ↦ (m, inr (inr (other, neither, refl)))
          ]
    ]

one_moved : (i j m n to : ℕ) → IsMoved i j m to → IsMoved i j n to → m ≡ n
one_moved i j m n to (inl (a, b)) (inl (c, d)) = a ∙ sym c
one_moved i j m n to (inl (a, b)) (inr (inl (c, d, e))) = a ∙ sym e ∙ b ∙ sym d
one_moved i j m n to (inl (a, b)) (inr (inr (c, d, e))) = absurd (d (sym e ∙ b))
one_moved i j m n to (inr (inl (a, b, c))) (inl (d, e)) = b ∙ sym e ∙ c ∙ sym d
one_moved i j m n to (inr (inl (a, b, c))) (inr (inl (d, e, f))) = b ∙ sym e
one_moved i j m n to (inr (inl (a, b, c))) (inr (inr (d, e, f))) = absurd (d (sym f ∙ c))
one_moved i j m n to (inr (inr (a, b, c))) (inl (d, e)) = absurd (b (sym c ∙ e))
one_moved i j m n to (inr (inr (a, b, c))) (inr (inl (d, e, f))) = absurd (a (sym c ∙ f))
one_moved i j m n to (inr (inr (a, b, c))) (inr (inr (d, e, f))) = sym c ∙ f

moved_within : (i j m to n : ℕ) → IsMoved i j m to → i < n → j < n → m < n → to < n
moved_within i j m to n (inl (a, b)) lt lt' lt'' = omega (arith, b, lt')
moved_within i j m to n (inr (inl (a, b, c))) lt lt' lt'' = omega (arith, c, lt)
moved_within i j m to n (inr (inr (a, b, c))) lt lt' lt'' = omega (arith, c, lt'')

moved_is : (xs : List Candidate) (i j m to : ℕ) → i < length xs → j < length xs → IsMoved i j m to
    → candidate_of_reading (swap xs i j) to ≡ candidate_of_reading xs m
moved_is xs i j m to lt lt' (inl (a, b)) =
    let parts = swapped_from_swap xs (swap xs i j) i j Silent lt lt' refl in
    ap (candidate_of_reading (swap xs i j)) b ∙ parts.1 ∙ ap (candidate_of_reading xs) (sym a)
moved_is xs i j m to lt lt' (inr (inl (a, b, c))) =
    let parts = swapped_from_swap xs (swap xs i j) i j Silent lt lt' refl in
    ap (candidate_of_reading (swap xs i j)) c ∙ parts.0 ∙ ap (candidate_of_reading xs) (sym b)
moved_is xs i j m to lt lt' (inr (inr (a, b, c))) =
    let parts = swapped_from_swap xs (swap xs i j) i j Silent lt lt' refl in
    ap (candidate_of_reading (swap xs i j)) c ∙ parts.2 m a b

pair_from : (candidates : List Candidate) (one other : ℕ) (codeword : List ℕ) → one ≢ other
    → one < length candidates
    → other < length candidates
    → AreAgreed (candidate_of_reading candidates one) (candidate_of_reading candidates other) codeword
    → HasPair candidates codeword
pair_from candidates one other codeword apart lt lt' agreed =
    elim (leb_tells (suc one) other) [
      | inl sooner ↦
          record {
            i = one;
            j = other;
            is = record { before = omega (arith, sooner.1); within = lt'; agreed = agreed };
          }
      | inr later ↦
          record {
            i = other;
            j = one;
            is = record {
              before = omega (arith, later.1, apart);
              within = lt;
              agreed =
                  are_agreed_other (candidate_of_reading candidates one)
                  (candidate_of_reading candidates other) codeword
                  agreed;
            };
          }
    ]

pair_swapped : (codeword : List ℕ) (l : List Candidate) (i j : ℕ) → i < length l → j < length l
    → HasPair l codeword → HasPair (swap l i j) codeword
pair_swapped codeword l i j lt lt' pair =
    let one = moved i j pair.i in
    let other = moved i j pair.j in
    let size : length (swap l i j) ≡ length l = length-swap l i j in
    let before = pair.is.before in
    let inside = pair.is.within in
    pair_from (swap l i j) one.0 other.0 codeword
    (λ same.
    let equal : pair.i ≡ pair.j =
    one_moved i j pair.i pair.j other.0 (subst (IsMoved i j pair.i) same one.1) other.1 in
    omega (arith, equal, before))
    (omega
    (arith, size, moved_within i j pair.i one.0 (length l) one.1 lt lt' (omega (arith, before, inside))))
    (omega (arith, size, moved_within i j pair.j other.0 (length l) other.1 lt lt' inside))
    (subst₂ (λ a b. AreAgreed a b codeword) (sym (moved_is l i j pair.i one.0 lt lt' one.1))
    (sym (moved_is l i j pair.j other.0 lt lt' other.1)) pair.is.agreed)

pair_reordered : (vs ws : List Candidate) (codeword : List ℕ) → IsPermutation vs ws → HasPair vs codeword
    → HasPair ws codeword
pair_reordered vs ws codeword is pair =
    IsPermutation-keeps vs (λ l. HasPair l codeword) pair (pair_swapped codeword) ws is

agreed_reordered : (vs ws : List Candidate) (codeword : List ℕ) → IsPermutation vs ws
    → IsAgreedAlone vs codeword → IsAgreedAlone ws codeword
agreed_reordered vs ws codeword is alone =
    let pair = pair_reordered vs ws codeword is
    (record { i = alone.one; j = alone.other; is = alone.agreed }) in
    record {
      one = pair.i;
      other = pair.j;
      agreed = pair.is;
      alone = λ i j another here.
          let back =
          pair_reordered ws vs another (IsPermutation-sym vs ws is) (record { i = i; j = j; is = here }) in
          alone.alone back.i back.j another back.is;
    }

-- ---- The results.

none_near : (vs ws : List Candidate) → IsPermutation vs ws → list_any is_near vs ≡ false
    → list_any is_near ws ≡ false
none_near vs ws is none = sym (list_any-IsPermutation is_near vs ws is) ∙ none

some_found : (vs ws : List Candidate) (source : WordSource) (codeword : List ℕ) → IsPermutation vs ws
    → IsMendedBy source vs codeword
    → (source' : WordSource) × (codeword' : List ℕ) × IsMendedBy source' ws codeword'
some_found vs ws (Reading r) codeword is by =
    let first = first_best vs ws r is by.0 in
    let near = best_counts ws first.0 first.1 in (
      Reading first.0,
      near.0,
      (first.1, is_of_near (candidate_of_reading ws first.0) near.0 near.1 near.2),
    )
some_found vs ws Agreed codeword is by =
    (Agreed, codeword, (none_near vs ws is by.0, agreed_reordered vs ws codeword is by.1))

-- both sources are the same candidate, or both are an agreement
abbrev pub AreSameCandidates : List Candidate → List Candidate → WordSource → WordSource → Type 0
AreSameCandidates vs ws (Reading r) (Reading k) = IsSameCandidate vs ws r k
AreSameCandidates vs ws Agreed Agreed = Unit {0}
AreSameCandidates vs ws one other = ⊥

near_either : (vs ws : List Candidate) (r : ℕ) (codeword : List ℕ) → IsPermutation vs ws → IsFirstBest vs r
    → ¬ IsMendedBy Agreed ws codeword
near_either vs ws r codeword is first agreed =
    let there = first_best vs ws r is first in
    not_agreed ws there.0 codeword there.1 agreed

same_source : (vs ws : List Candidate) (source source' : WordSource) (codeword codeword' : List ℕ)
    → IsPermutation vs ws → AreCodewords vs → AreCodewords ws → IsMendedBy source vs codeword
    → IsMendedBy source' ws codeword' → (codeword ≡ codeword') × AreSameCandidates vs ws source source'
same_source vs ws (Reading r) (Reading k) codeword codeword' is codewords codewords' one other =
    let same = same_best vs ws r k is codewords codewords' one.0 other.0 in (
      sym (pack_of (candidate_of_reading vs r) same.pack codeword same.distance same.one one.1)
          ∙ pack_of (candidate_of_reading ws k) same.pack codeword' same.distance same.other other.1,
      same,
    )
same_source vs ws (Reading r) Agreed codeword codeword' is codewords codewords' one other =
    absurd (near_either vs ws r codeword' is one.0 other)
same_source vs ws Agreed (Reading k) codeword codeword' is codewords codewords' one other =
    absurd (near_either ws vs k codeword (IsPermutation-sym vs ws is) other.0 one)
same_source vs ws Agreed Agreed codeword codeword' is codewords codewords' one other =
    let there = agreed_reordered vs ws codeword is one.1 in
    (other.1.alone there.one there.other codeword there.agreed, tt)

abbrev pub IsSameWord : List Candidate → List Candidate → Option Mended → Option Mended → Type 0
IsSameWord vs ws (Some one) (Some other) =
    (one.pack ≡ other.pack) × AreSameCandidates vs ws one.source other.source
IsSameWord vs ws None None = Unit {0}
IsSameWord vs ws one other = ⊥

pub same_word : (vs ws : List Candidate) (found found' : Option Mended) → IsPermutation vs ws
    → AreCodewords vs
    → AreCodewords ws → IsMending vs found → IsMending ws found' → IsSameWord vs ws found found'
same_word vs ws None None is codewords codewords' one two = tt
same_word vs ws None (Some mended) is codewords codewords' one two =
    let other = some_found ws vs mended.source mended.pack (IsPermutation-sym vs ws is) two in
    absurd (one other.0 other.1 other.2)
same_word vs ws (Some mended) None is codewords codewords' one two =
    let other = some_found vs ws mended.source mended.pack is one in
    absurd (two other.0 other.1 other.2)
same_word vs ws (Some mended) (Some another) is codewords codewords' one two =
    same_source vs ws mended.source another.source mended.pack another.pack is codewords codewords' one two

-- ---- Whole streams.

pub said_codewords : (words : ℕ) (programs : List (List ℕ)) (n : ℕ) (candidates : List Candidate)
    → AreCandidates words programs n candidates → AreCodewords candidates
said_codewords words programs n candidates are r pack distance lt near =
    let given = counted words programs n r (candidate_of_reading candidates r) pack distance
    (are.each r (omega (arith, lt, are.count))) near in
    given_codeword programs r n pack distance given.1

given_same : (words : ℕ) (programs others : List (List ℕ)) (n : ℕ) (vs ws : List Candidate)
    (source source' : WordSource) → AreCandidates words programs n vs → AreCandidates words others n ws
    → AreSameCandidates vs ws source source' → IsSameSource programs others n source source'
given_same words programs others n vs ws (Reading r) (Reading k) are are' same =
    let one = counted words programs n r (candidate_of_reading vs r) same.pack same.distance
    (are.each r (omega (arith, same.within, are.count))) same.one in
    let other = counted words others n k (candidate_of_reading ws k) same.pack same.distance
    (are'.each k (omega (arith, same.within', are'.count))) same.other in
    one.1 ∙ sym other.1
given_same words programs others n vs ws (Reading r) Agreed are are' same = absurd same
given_same words programs others n vs ws Agreed (Reading k) are are' same = absurd same
given_same words programs others n vs ws Agreed Agreed are are' same = tt

same_find : (words : ℕ) (programs others : List (List ℕ)) (n : ℕ) (vs ws : List Candidate)
    (found found' : Option Mended) → AreCandidates words programs n vs → AreCandidates words others n ws
    → IsSameWord vs ws found found' → IsSameFind programs others n found found'
same_find words programs others n vs ws None None are are' same = tt
same_find words programs others n vs ws None (Some mended) are are' same = absurd same
same_find words programs others n vs ws (Some mended) None are are' same = absurd same
same_find words programs others n vs ws (Some one) (Some other) are are' same =
    (same.0, given_same words programs others n vs ws one.source other.source are are' same.1)

pub reordered : (words : ℕ) (programs others : List (List ℕ)) (said said' : List (List Candidate))
    (found found' : List (Option Mended)) → IsPermutation programs others
    → AreMended words programs said found → AreMended words others said' found'
    → (n : ℕ) → n < words → IsSameFind programs others n (get_or found n None) (get_or found' n None)
reordered words programs others said said' found found' is mended mended' n lt =
    let vs : List Candidate = get_or said n [] in
    let ws : List Candidate = get_or said' n [] in
    let are = mended.candidates n lt in
    let are' = mended'.candidates n lt in
    same_find words programs others n vs ws (get_or found n None) (get_or found' n None) are are'
    (same_word vs ws (get_or found n None) (get_or found' n None)
    (said_reordered words programs others n vs ws is are are') (said_codewords words programs n vs are)
    (said_codewords words others n ws are') (mended.each n lt) (mended'.each n lt))

find_bytes : (programs others : List (List ℕ)) (n : ℕ) (found found' : Option Mended)
    → IsSameFind programs others n found found' → mended_bytes found ≡ mended_bytes found'
find_bytes programs others n None None same = refl
find_bytes programs others n None (Some mended) same = absurd same
find_bytes programs others n (Some mended) None same = absurd same
find_bytes programs others n (Some one) (Some other) same = same.0

-- a function of the results is the same for both
same_map : {X : Type 0} (f : Option Mended → X) (words : ℕ) (found found' : List (Option Mended)) (d : X)
    → length found ≡ words → length found' ≡ words
    → ((n : ℕ) → n < words → f (get_or found n None) ≡ f (get_or found' n None))
    → map f found ≡ map f found'
same_map f words found found' d size size' each =
    ext_get_or d (map f found) (map f found')
    (length-map found f ∙ size ∙ sym (length-map found' f ∙ size')) (λ n lt.
    let within : n < words = omega (arith, lt, length-map found f, size) in
    get_or-map f found n None d (omega (arith, within, size))
    ∙ each n within
    ∙ sym (get_or-map f found' n None d (omega (arith, within, size'))))

pub reordered_text : (words : ℕ) (programs others : List (List ℕ)) (said said' : List (List Candidate))
    (found found' : List (Option Mended)) → IsPermutation programs others
    → AreMended words programs said found → AreMended words others said' found'
    → mended_text found ≡ mended_text found'
reordered_text words programs others said said' found found' is mended mended' =
    flat_joined mended_bytes found
    ∙ ap concat (same_map mended_bytes words found found' [] mended.count mended'.count (λ n lt.
    find_bytes programs others n (get_or found n None) (get_or found' n None)
    (reordered words programs others said said' found found' is mended mended' n lt)))
    ∙ sym (flat_joined mended_bytes found')

-- ---- The counts.

pub count_mapped : {X : Type 0} (p : X → Bool) (xs : List X) → count_by p xs ≡ count_by (λ b. b) (map p xs)
count_mapped p [] = refl
count_mapped p (x ∷ xs) =
    sum_by-cons (λ y. if p y then 1 else 0) x xs
    ∙ ap (λ n. (if p x then 1 else 0) + n) (count_mapped p xs)
    ∙ sym (sum_by-cons (λ (b : Bool). if b then 1 else 0) (p x) (map p xs))

same_count : (p : Option Mended → Bool) (words : ℕ) (found found' : List (Option Mended))
    → length found ≡ words → length found' ≡ words
    → ((n : ℕ) → n < words → p (get_or found n None) ≡ p (get_or found' n None))
    → count_by p found ≡ count_by p found'
same_count p words found found' size size' each =
    count_mapped p found
    ∙ ap (λ bs. count_by (λ (b : Bool). b) bs) (same_map p words found found' false size size' each)
    ∙ sym (count_mapped p found')

-- whether a source that is no reading has this number
above_of : ℕ → WordSource → Bool
above_of byte (Reading r) = false
above_of byte Agreed = 254 == byte

above : ℕ → Option Mended → Bool
above byte (Some mended) = above_of byte mended.source
above byte None = 255 == byte

named_source : (vs : List Candidate) (source : WordSource) (codeword : List ℕ) (byte : ℕ) → length vs ≤ 254
    → 254 ≤ byte → IsMendedBy source vs codeword → (source_number source == byte) ≡ above_of byte source
unfolding above_of
named_source vs (Reading r) codeword byte few high by =
    test_no r byte (λ e. omega (arith, e, few, high, by.0.within))
named_source vs Agreed codeword byte few high by = refl

named : (vs : List Candidate) (found : Option Mended) (byte : ℕ) → length vs ≤ 254 → 254 ≤ byte
    → IsMending vs found → (source_byte found == byte) ≡ above byte found
unfolding above
named vs None byte few high is = refl
named vs (Some mended) byte few high by = named_source vs mended.source mended.pack byte few high by

above_source : (programs others : List (List ℕ)) (n byte : ℕ) (one other : WordSource)
    → IsSameSource programs others n one other → above_of byte one ≡ above_of byte other
unfolding above_of
above_source programs others n byte (Reading r) (Reading k) same = refl
above_source programs others n byte (Reading r) Agreed same = absurd same
above_source programs others n byte Agreed (Reading k) same = absurd same
above_source programs others n byte Agreed Agreed same = refl

above_same : (programs others : List (List ℕ)) (n byte : ℕ) (found found' : Option Mended)
    → IsSameFind programs others n found found' → above byte found ≡ above byte found'
unfolding above
above_same programs others n byte None None same = refl
above_same programs others n byte None (Some mended) same = absurd same
above_same programs others n byte (Some mended) None same = absurd same
above_same programs others n byte (Some one) (Some other) same =
    above_source programs others n byte one.source other.source same.1

byte_count : (words byte : ℕ) (programs others : List (List ℕ)) (said said' : List (List Candidate))
    (found found' : List (Option Mended)) → IsPermutation programs others → length programs ≤ 254
    → 254 ≤ byte → AreMended words programs said found → AreMended words others said' found'
    → count_by (λ f. source_byte f == byte) found ≡ count_by (λ f. source_byte f == byte) found'
byte_count words byte programs others said said' found found' is few high mended mended' =
    let size : length others ≡ length programs = length_permutation programs others is in
    same_count (λ (f : Option Mended). source_byte f == byte) words found found' mended.count mended'.count
    (λ n lt.
    named (get_or said n []) (get_or found n None) byte
    (omega (arith, few, (mended.candidates n lt).count)) high (mended.each n lt)
    ∙ above_same programs others n byte (get_or found n None) (get_or found' n None)
    (reordered words programs others said said' found found' is mended mended' n lt)
    ∙ sym (named (get_or said' n []) (get_or found' n None) byte
    (omega (arith, few, size, (mended'.candidates n lt).count)) high (mended'.each n lt)))

-- ---- The dropped codewords.

mark_is : (mark left : Bool) (A : Type 0) → MatchBool mark A (¬ A) → (A → left ≡ true) → (left ≡ true → A)
    → mark ≡ left
mark_is true left A is there back = sym (there is)
mark_is false true A is there back = absurd (is (back refl))
mark_is false false A is there back = refl

drop_marks : (words : ℕ) (programs : List (List ℕ)) (r n count : ℕ)
    (is : IsDropCount words programs r n count)
    → is.marks ≡ map (λ k. left_out words programs k (get_or programs r [])) (below n)
drop_marks words programs r n count is =
    let left : ℕ → Bool = λ (k : ℕ). left_out words programs k (get_or programs r []) in
    ext_get_or false is.marks (map left (below n))
    (is.size ∙ sym (length-map-range_with_len left 0 n)) (λ k lt.
    let within : k < n = omega (arith, lt, is.size) in
    mark_is (get_or is.marks k false) (left k) (IsDropped words programs r k) (is.each k within)
    (left_true words programs r k) (left_dropped words programs r k)
    ∙ sym (get_or-map-range_with_len left 0 n k k false within (omega arith)))

pub drops_reordered : (words : ℕ) (programs others : List (List ℕ)) (r k count count' : ℕ)
    → IsPermutation programs others → get_or programs r [] ≡ get_or others k []
    → IsDropCount words programs r words count → IsDropCount words others k words count' → count ≡ count'
drops_reordered words programs others r k count count' is same one other =
    let own : List ℕ → ℕ → Bool = λ (p : List ℕ) (n : ℕ). left_out words programs n p in
    let marks : one.marks ≡ other.marks =
    drop_marks words programs r words count one
    ∙ ap (λ p. map (own p) (below words)) same
    ∙ map_same (own (get_or others k [])) (λ n. left_out words others n (get_or others k [])) (below words)
    (λ n. sym (left_same words programs others n is (get_or others k [])))
    ∙ sym (drop_marks words others k words count' other) in
    one.is ∙ ap (λ ms. count_by (λ (mark : Bool). mark) ms) marks ∙ sym other.is

-- ---- The outputs of the calls.

pub reordered_many : (count lead_in : ℕ)
    (readings others old new turned old_sources sources sources' : List ℕ)
    (reported reported' : Tallies) → count ≤ 254 → length others ≡ length readings
    → IsPermutation (parts count (length readings / count) readings)
    (parts count (length others / count) others)
    → AreAllMendedInto count lead_in readings old new old_sources sources reported
    → AreAllMendedInto count lead_in others old turned old_sources sources' reported'
    → (turned ≡ new) × (reported'.agreed ≡ reported.agreed) × (reported'.none ≡ reported.none)
reordered_many count lead_in readings others old new turned old_sources sources sources' reported reported'
    few same
    is
    done done' =
    let words : ℕ = words_in_each count lead_in readings in
    let equal : words_in_each count lead_in others ≡ words =
    ap (λ n. whole_packs (n / count / 96 - lead_in)) same in
    let all : List (List ℕ) = parts count (length readings / count) readings in
    let programs : List (List ℕ) = programs_of count lead_in readings in
    let programs' : List (List ℕ) = programs_of count lead_in others in
    let moved_is : IsPermutation programs programs' =
    IsPermutation-map (program_of lead_in) all (parts count (length others / count) others) is in
    let mended' = subst (λ w. AreMended w programs' done'.said done'.found) equal done'.mended in
    let text : mended_text done'.found ≡ mended_text done.found =
    sym
    (reordered_text words programs programs' done.said done'.said done.found done'.found moved_is done.mended
    mended') in
    let size : length programs ≤ 254 =
    omega (
      arith,
      few,
      length-map all (program_of lead_in),
      parts_length count (length readings / count) readings,
    ) in
    let counts : (byte : ℕ) → 254 ≤ byte → count_by (λ f. source_byte f == byte) done.found
    ≡ count_by (λ f. source_byte f == byte) done'.found =
    λ byte high.
    byte_count words byte programs programs' done.said done'.said done.found done'.found moved_is size
    high done.mended mended' in (
      written (mended_text done'.found) (mended_text done.found) turned old text done'.text ∙ sym done.text,
      done'.tallies_are.agreed ∙ sym (counts 254 (omega arith)) ∙ sym done.tallies_are.agreed,
      done'.tallies_are.none ∙ sym (counts 255 (omega arith)) ∙ sym done.tallies_are.none,
    )
