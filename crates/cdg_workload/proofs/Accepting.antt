-- A generated script line by line.
use Rattle.std.proofs.Common.{◌≡◌, ℕ, zero, suc, ◌+◌, ◌-◌, ◌*◌, ◌<◌, ◌≤◌, Bool, true, false, ◌||◌, ◌==◌, nat_lt, List, [], ◌∷◌, ◌++◌, length, get_or, map, flat_map, Ok, refl, sym, ap, ◌∙◌, subst, append_assoc, arith}
use Rattle.std.specs.declared.result.Result.{Result}
use Rattle.std.proofs.lemmas.Bool.{lt-ltb, eq-eqb}
use Rattle.std.proofs.lemmas.List.{append-nil}
use Rattle.std.proofs.lemmas.List.Elements.{filter_map-append}
use Rattle.std.proofs.lemmas.List.FromFn.{map-range_with_len_more, length-map-range_with_len, get_or-map-range_with_len}
use Rattle.std.specs.List.{range_with_len, filter_map}
use Rattle.bit_lists.specs.Counting.{below}
use Rattle.picture_script.specs.Script.{Drawing, Show, shown_times, shows, pictures, hold_time}
use Rattle.picture_script.specs.ScriptGrammar.{grown, checked_lines, is_after_hold}
use Rattle.picture_script.proofs.Refusals.{one_taken, reading_ends, step_read}
use Rattle.picture_script.specs.declared.reasons.ScriptWhy.{ScriptWhy}
use Rattle.cdg_workload.specs.Generator.{generator_word}
use Rattle.cdg_workload.specs.Generated.{grey, rect, picture}
use Rattle.cdg_workload.proofs.LineTexts.{IsAccepted, rect_of_words, rect_accepted, grey_text, grey_accepted, show_text, show_accepted}

abbrev pub result : List Drawing → Result (List Drawing) (ℕ × ScriptWhy)
result drawings = Ok drawings

accept_one : (n : ℕ) (before : List Drawing) (line : List ℕ) (rest : List (List ℕ)) (said : Drawing)
    → IsAccepted before line said
    → checked_lines n before (line ∷ rest) ≡ checked_lines (n + 1) (before ++ said ∷ []) rest
accept_one n before line rest said is = one_taken n before (before ++ said ∷ []) line rest
    (step_read before line is.heard ∙ ap (grown before) is.read)

-- ---- Greys.

pub accept_greys : (m a n : ℕ) (before : List Drawing) (rest : List (List ℕ)) → a + m ≤ 16
    → (last : ℕ)
    × (checked_lines n before (map grey_text (range_with_len a m) ++ rest) ≡ checked_lines last
    (before ++ map grey (range_with_len a m)) rest)
accept_greys zero a n before rest within = (n, ap (λ b. checked_lines n b rest) (sym (append-nil before)))
accept_greys (suc m) a n before rest within =
    let (last, more) = accept_greys m (a + 1) (n + 1) (before ++ grey a ∷ []) rest (omega arith) in (
      last,
      accept_one n before (grey_text a) _ (grey a) (grey_accepted before a (omega arith)) ∙ more
          ∙ ap (λ b. checked_lines last b rest)
          (append_assoc before (grey a ∷ []) (map grey (range_with_len (a + 1) m))),
    )

-- ---- Pictures.

abbrev pub times : ℕ → ℕ × ℕ
times k = (800 * (k + 1), 800 * (k + 1) + 20)

-- the first k pictures have been shown
abbrev pub Stands : ℕ → List Drawing → Type 0
Stands k before = shows before ≡ map times (below k)

few_pictures : (k : ℕ) (before : List Drawing) → Stands k before → pictures before ≡ k
few_pictures k before stands = ap length stands ∙ length-map-range_with_len times 0 k

or_true : (t : Bool) → (t || true) ≡ true
or_true true = refl
or_true false = refl

after_hold : (k : ℕ) (before : List Drawing) → Stands k before → is_after_hold before (800 * (k + 1)) ≡ true
after_hold zero before stands =
    ap (λ t. t || nat_lt (hold_time before (pictures before - 1)) (800 * (0 + 1)))
    (eq-eqb (pictures before) 0 (few_pictures 0 before stands))
after_hold (suc k) before stands =
    let count = few_pictures (suc k) before stands in
    let place : pictures before - 1 ≡ k = omega (arith, count) in
    let held : hold_time before (pictures before - 1) ≡ 800 * (k + 1) + 20 =
    ap (λ i. hold_time before i) place ∙ ap (λ (l : List (ℕ × ℕ)). (get_or l k (0, 0)).1) stands
    ∙ ap (λ (p : ℕ × ℕ). p.1)
    (get_or-map-range_with_len times 0 (suc k) k k (0, 0) (omega arith) (omega arith)) in
    let earlier : nat_lt (hold_time before (pictures before - 1)) (800 * (suc k + 1)) ≡ true =
    lt-ltb _ _ (omega (arith, held)) in
    ap (λ t. (pictures before == 0) || t) earlier ∙ or_true (pictures before == 0)

rect_stands : (k : ℕ) (before : List Drawing) (a b : ℕ) → Stands k before → Stands k (before ++ rect a b ∷ [])
unfolding shows
rect_stands k before a b stands = filter_map-append shown_times before (rect a b ∷ [])
    ∙ append-nil (filter_map shown_times before) ∙ stands

show_stands : (k : ℕ) (before : List Drawing) → Stands k before
    → Stands (k + 1) (before ++ Show (800 * (k + 1)) (800 * (k + 1) + 20) ∷ [])
unfolding shows
show_stands k before stands =
    filter_map-append shown_times before (Show (800 * (k + 1)) (800 * (k + 1) + 20) ∷ [])
    ∙ ap (λ l. l ++ times k ∷ []) stands ∙ sym (map-range_with_len_more times 0 k k (omega arith))

unfoldable pub picture_texts : ℕ → ℕ → List (List ℕ)
picture_texts seed k =
    rect_of_words (generator_word seed (6 * k)) (generator_word seed (6 * k + 1)) ∷ rect_of_words
    (generator_word seed (6 * k + 2)) (generator_word seed (6 * k + 3))
    ∷ rect_of_words (generator_word seed (6 * k + 4)) (generator_word seed (6 * k + 5)) ∷ show_text k ∷ []

four_joined : (before more : List Drawing) (a b c d : Drawing)
    → (((before ++ a ∷ []) ++ b ∷ []) ++ c ∷ []) ++ d ∷ [] ≡ before ++ (a ∷ b ∷ c ∷ d ∷ [])
four_joined before more a b c d = simp append_assoc

accept_picture : (seed k n : ℕ) (before : List Drawing) (rest : List (List ℕ)) → k < 500 → Stands k before
    → (last : ℕ)
    × (checked_lines n before (picture_texts seed k ++ rest) ≡ checked_lines last
    (before ++ picture seed k) rest) × Stands (k + 1) (before ++ picture seed k)
unfolding picture_texts picture
accept_picture seed k n before rest lt stands =
    let a0 = generator_word seed (6 * k) in
    let b0 = generator_word seed (6 * k + 1) in
    let a1 = generator_word seed (6 * k + 2) in
    let b1 = generator_word seed (6 * k + 3) in
    let a2 = generator_word seed (6 * k + 4) in
    let b2 = generator_word seed (6 * k + 5) in
    let one : List Drawing = before ++ rect a0 b0 ∷ [] in
    let two : List Drawing = one ++ rect a1 b1 ∷ [] in
    let three : List Drawing = two ++ rect a2 b2 ∷ [] in
    let stands1 = rect_stands k before a0 b0 stands in
    let stands2 = rect_stands k one a1 b1 stands1 in
    let stands3 = rect_stands k two a2 b2 stands2 in
    let few : pictures three < 20000 = omega (arith, few_pictures k three stands3) in
    let four = four_joined before [] (rect a0 b0) (rect a1 b1) (rect a2 b2)
    (Show (800 * (k + 1)) (800 * (k + 1) + 20)) in (
      n + 1 + 1 + 1 + 1,
      accept_one n before _ _ (rect a0 b0) (rect_accepted before a0 b0)
          ∙ accept_one (n + 1) one _ _ (rect a1 b1) (rect_accepted one a1 b1)
          ∙ accept_one (n + 1 + 1) two _ _ (rect a2 b2) (rect_accepted two a2 b2)
          ∙ accept_one (n + 1 + 1 + 1) three _ _ (Show (800 * (k + 1)) (800 * (k + 1) + 20))
          (show_accepted three k lt few (after_hold k three stands3))
          ∙ ap (λ b. checked_lines (n + 1 + 1 + 1 + 1) b rest) four,
      subst (Stands (k + 1)) four (show_stands k three stands3),
    )

pub accept_pictures : (m k n : ℕ) (before : List Drawing) (seed : ℕ) → k + m ≤ 500 → Stands k before
    → checked_lines n before (flat_map (picture_texts seed) (range_with_len k m)) ≡ result
    (before ++ flat_map (picture seed) (range_with_len k m))
accept_pictures zero k n before seed within stands = reading_ends n before [] refl
    ∙ ap result (sym (append-nil before))
accept_pictures (suc m) k n before seed within stands =
    let (last, first, after) =
    accept_picture seed k n before (flat_map (picture_texts seed) (range_with_len (k + 1) m))
    (omega arith) stands in
    first ∙ accept_pictures m (k + 1) last (before ++ picture seed k) seed (omega arith) after
    ∙ ap result (append_assoc before (picture seed k) (flat_map (picture seed) (range_with_len (k + 1) m)))
