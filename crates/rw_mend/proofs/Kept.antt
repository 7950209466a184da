-- Every codeword of an error-free reading is chosen.
use Rattle.std.proofs.Common.{◌≡◌, ◌==◌, ◌&&◌, ◌||◌, ℕ, ◌<◌, Bool, true, false, not, List, [], ◌∷◌, ◌++◌, length, get_or, map, refl, sym, ap, ◌∙◌, subst, inl, inr, arith, None}
use Rattle.std.specs.List.{concat, flat_map}
use Rattle.std.specs.declared.option.Option.{Option}
use Rattle.std.proofs.lemmas.Bool.{false≢true}
use Rattle.std.proofs.lemmas.Bool.Decides.{eqb_tells}
use Rattle.std.proofs.lemmas.List.{ext_get_or, get_or-map, length-map}
use Rattle.std.proofs.lemmas.List.FromFn.{get_or-map-range_with_len, length-map-range_with_len}
use Rattle.bit_lists.specs.Counting.{below}
use Rattle.rw_code.specs.Codeword.{IsCodeword, differences}
use Rattle.rw_code.specs.Packs.{idle_pack}
use Rattle.rw_code.proofs.Differing.{differences_none, differences_self}
use Rattle.rw_mend.specs.Choice.{IsMending, candidate_of_reading}
use Rattle.rw_mend.specs.Drops.{AreCandidates, HasGraphics, IsDropped, IsLacking, IsSaid}
use Rattle.rw_mend.specs.Laws.{IsCleanBeside, candidate_bytes, given_text}
use Rattle.rw_mend.specs.Streams.{AreMended, mended_bytes, mended_text}
use Rattle.rw_mend.specs.Candidates.{has_used_mode, is_doubtful_candidate, is_graphics_pack, is_graphics_candidate, is_idle_candidate, is_idle_pack, is_quiet_candidate}
use Rattle.rw_mend.specs.Words.{given_at}
use Rattle.rw_mend.specs.declared.choice.Mended.{Mended}
use Rattle.rw_mend.specs.declared.candidates.Candidate.{Candidate}
use Rattle.rw_mend.specs.declared.candidates.Candidate.TheVariants.{Silent, Lost, Near}
use Rattle.rw_mend.proofs.Clean.{both_hold, clean_wins, first_holds, second_holds}
use Rattle.rw_mend.proofs.Givens.{given_codeword}
use Rattle.rw_mend.proofs.Missing.{idle_is_quiet, reported}

-- ---- Graphics and idle packs.

pub idle_is : is_idle_pack idle_pack ≡ true
idle_is = ap (λ n. n == 0) (differences_self idle_pack)

not_true : (b : Bool) → not b ≡ true → b ≡ false
not_true true is = absurd (false≢true is)
not_true false is = refl

both_of : (a b : Bool) → (a && b) ≡ true → (a ≡ true) × (b ≡ true)
both_of true b is = (refl, is)
both_of false b is = absurd (false≢true is)

pub second_of : (a b : Bool) → (a || b) ≡ true → a ≡ false → b ≡ true
second_of true b is fails = absurd (false≢true (sym fails))
second_of false b is fails = is

-- a graphics candidate is a codeword that is not idle
pub graphics_are : (candidate : Candidate) → is_graphics_candidate candidate ≡ true
    → (pack : List ℕ) × (distance : ℕ) × (candidate ≡ Near pack distance) × (is_idle_pack pack ≡ false)
graphics_are Silent is = absurd (false≢true is)
graphics_are (Lost word) is = absurd (false≢true is)
graphics_are (Near pack distance) is =
    let tests = both_of (not (is_idle_pack pack)) ((distance == 0) || is_graphics_pack pack) is in
    (pack, distance, refl, not_true (is_idle_pack pack) tests.0)

-- and so is a doubtful candidate
pub doubtful_are : (candidate : Candidate) → is_doubtful_candidate candidate ≡ true
    → (pack : List ℕ) × (distance : ℕ) × (candidate ≡ Near pack distance) × (is_idle_pack pack ≡ false)
doubtful_are Silent is = absurd (false≢true is)
doubtful_are (Lost word) is = absurd (false≢true is)
doubtful_are (Near pack distance) is =
    let tests = both_of (not (is_idle_pack pack)) (not (distance == 0) && not (has_used_mode pack)) is in
    (pack, distance, refl, not_true (is_idle_pack pack) tests.0)

-- graphics are never doubtful
pub graphics_are_sure : (candidate : Candidate) → is_graphics_candidate candidate ≡ true
    → ¬ (is_doubtful_candidate candidate ≡ true)
graphics_are_sure Silent is doubtful = false≢true is
graphics_are_sure (Lost word) is doubtful = false≢true is
graphics_are_sure (Near pack distance) is doubtful =
    let tests = both_of (not (is_idle_pack pack)) ((distance == 0) || is_graphics_pack pack) is in
    let distance_are =
    both_of (not (is_idle_pack pack)) (not (distance == 0) && not (has_used_mode pack)) doubtful in
    let parts = both_of (not (distance == 0)) (not (has_used_mode pack)) distance_are.1 in
    let some : (distance == 0) ≡ false = not_true (distance == 0) parts.0 in
    let unused : has_used_mode pack ≡ false = not_true (has_used_mode pack) parts.1 in
    let graphics : is_graphics_pack pack ≡ true =
    second_of (distance == 0) (is_graphics_pack pack) tests.1 some in
    let mode = both_of (get_or pack 0 0 == 9) _ graphics in
    false≢true
    (sym unused ∙ second_holds (get_or pack 0 0 == 8) _ (first_holds (get_or pack 0 0 == 9) _ mode.0))

pub clean_graphics : (pack : List ℕ) → is_idle_pack pack ≡ false → is_graphics_candidate (Near pack 0) ≡ true
clean_graphics pack other =
    both_hold (not (is_idle_pack pack)) ((0 == 0) || is_graphics_pack pack) (ap not other) refl

pub clean_sure : (pack : List ℕ) → ¬ (is_doubtful_candidate (Near pack 0) ≡ true)
clean_sure pack is =
    false≢true ((both_of (not (is_idle_pack pack)) (not (0 == 0) && not (has_used_mode pack)) is).1)

-- ---- The candidates.

said_cases : (words : ℕ) (programs : List (List ℕ)) (n r : ℕ) (candidate : Candidate) (pack : List ℕ)
    → IsSaid words programs n r candidate → candidate ≡ Near pack 0
    → (¬ IsDropped words programs r n) × (given_at programs r n ≡ Near pack 0)
said_cases words programs n r candidate pack (inl (dropped, silent)) is = cc
said_cases words programs n r candidate pack (inr (kept, given)) is = (kept, sym given ∙ is)

pub said_kept : (words : ℕ) (programs : List (List ℕ)) (n r : ℕ) (candidate : Candidate)
    → IsSaid words programs n r candidate → ¬ IsDropped words programs r n → candidate ≡ given_at programs r n
said_kept words programs n r candidate (inl (dropped, silent)) kept = absurd (kept dropped)
said_kept words programs n r candidate (inr (kept', given)) kept = given

-- no codeword of an error-free reading is dropped
clean_kept : (words : ℕ) (programs : List (List ℕ)) (r n : ℕ) → IsCleanBeside words programs r → n < words
    → ¬ IsDropped words programs r n
clean_kept words programs r n is lt (inl lacking) =
    let m : ℕ = lacking.lacks.word in
    let misses = lacking.lacks.misses in
    let idle : is_idle_pack (is.codeword m) ≡ true =
    ap is_idle_candidate (sym (is.clean m lacking.lacks.within)) ∙ misses.idle in
    false≢true
    (sym (is.quiet m misses.graphics.reading lacking.lacks.within misses.graphics.within idle)
    ∙ misses.graphics.graphics)
clean_kept words programs r n is lt (inr doubted) =
    clean_sure (is.codeword n) (ap is_doubtful_candidate (sym (is.clean n lt)) ∙ doubted.doubtful)

pub zeros_are : (pack : List ℕ) → IsCodeword pack → is_idle_pack pack ≡ true → pack ≡ idle_pack
zeros_are pack codeword is =
    elim (eqb_tells (differences pack idle_pack) 0) [
      | inl none ↦ differences_none pack idle_pack codeword.is_word.size none.1
      | inr some ↦ absurd (false≢true (sym some.0 ∙ is))
    ]

-- a reading that has the idle pack while another has graphics lacks graphics there
pub lacking_here : (words : ℕ) (programs : List (List ℕ)) (r n : ℕ) → n < words
    → is_idle_candidate (given_at programs r n) ≡ true → HasGraphics programs n → IsLacking words programs r n
lacking_here words programs r n lt idle graphics =
    let quiet : (k : ℕ) → n ≡ k → is_quiet_candidate (given_at programs r k) ≡ true =
    λ (k : ℕ) (same : n ≡ k).
    subst (λ j. is_quiet_candidate (given_at programs r j) ≡ true) same
    (idle_is_quiet (given_at programs r n) idle) in
    record {
      idle = idle;
      lacks = record {
        word = n;
        within = lt;
        quiet =
            λ k within between.
            elim between [
              | inl after ↦ quiet k (omega (arith, after.0, after.1))
              | inr before ↦ quiet k (omega (arith, before.0, before.1))
            ];
        misses = record { idle = idle; graphics = graphics };
      };
    }

-- another error-free candidate is the same codeword
only_clean : (words : ℕ) (programs : List (List ℕ)) (r n s : ℕ) (candidate : Candidate) (other : List ℕ)
    (is : IsCleanBeside words programs r) → n < words → s < length programs
    → IsSaid words programs n s candidate
    → candidate ≡ Near other 0 → other ≡ is.codeword n
only_clean words programs r n s candidate other is lt within said near =
    let given = said_cases words programs n s candidate other said near in
    elim (is.others n s other lt within given.1) [
      | inl same ↦ same
      | inr zeros ↦
          elim (reported (is_idle_pack (is.codeword n))) [
            | inl idle ↦
                zeros
                ∙ sym
                (zeros_are (is.codeword n) (given_codeword programs r n (is.codeword n) 0 (is.clean n lt))
                idle)
            | inr busy ↦
                absurd
                (given.0 (inl (lacking_here words programs s n lt
                (ap is_idle_candidate given.1 ∙ ap is_idle_pack zeros ∙ idle_is) (record {
                  reading = r;
                  within = is.within;
                  graphics = ap is_graphics_candidate (is.clean n lt) ∙ clean_graphics (is.codeword n) busy;
                }))))
          ]
    ]

-- ---- Whole streams.

clean_word : (words : ℕ) (programs : List (List ℕ)) (r n : ℕ) (candidates : List Candidate)
    (found : Option Mended)
    (is : IsCleanBeside words programs r) → n < words → AreCandidates words programs n candidates
    → IsMending candidates found → mended_bytes found ≡ candidate_bytes (given_at programs r n)
clean_word words programs r n candidates found is lt said mended =
    let here : candidate_of_reading candidates r ≡ Near (is.codeword n) 0 =
    said_kept words programs n r (candidate_of_reading candidates r) (said.each r is.within)
    (clean_kept words programs r n is lt) ∙ is.clean n lt in
    clean_wins candidates r (is.codeword n) found (omega (arith, is.within, said.count)) here
    (λ s other inside near.
    let within : s < length programs = omega (arith, inside, said.count) in
    only_clean words programs r n s (candidate_of_reading candidates s) other is lt within
    (said.each s within) near)
    mended
    ∙ ap candidate_bytes (sym (is.clean n lt))

pub flat_joined : {X : Type 0} (f : X → List ℕ) (xs : List X) → flat_map f xs ≡ concat (map f xs)
flat_joined f [] = refl
flat_joined f (x ∷ xs) = ap (λ l. f x ++ l) (flat_joined f xs)

-- a list of texts, one for each word
pub each_text : (words : ℕ) (programs : List (List ℕ)) (r : ℕ) (found : List (Option Mended))
    → length found ≡ words
    → ((n : ℕ) → n < words → mended_bytes (get_or found n None) ≡ candidate_bytes (given_at programs r n))
    → mended_text found ≡ given_text words programs r
each_text words programs r found size each =
    let given : ℕ → List ℕ = λ (n : ℕ). candidate_bytes (given_at programs r n) in
    let same : map mended_bytes found ≡ map given (below words) =
    ext_get_or [] (map mended_bytes found) (map given (below words))
    (length-map found mended_bytes ∙ size ∙ sym (length-map-range_with_len given 0 words)) (λ n lt.
    let within : n < words = omega (arith, lt, length-map found mended_bytes, size) in
    get_or-map mended_bytes found n None [] (omega (arith, within, size))
    ∙ each n within
    ∙ sym (get_or-map-range_with_len given 0 words n n [] within (omega arith))) in
    flat_joined mended_bytes found ∙ ap concat same ∙ sym (flat_joined given (below words))

pub clean_text : (words : ℕ) (programs : List (List ℕ)) (r : ℕ) (said : List (List Candidate))
    (found : List (Option Mended)) → IsCleanBeside words programs r → AreMended words programs said found
    → mended_text found ≡ given_text words programs r
clean_text words programs r said found is mended =
    each_text words programs r found mended.count (λ n lt.
    clean_word words programs r n (get_or said n []) (get_or found n None) is lt (mended.candidates n lt)
    (mended.each n lt))
