-- The words that a gatherer puts together from a list of slots.
use Rattle.std.proofs.Common.{◌≡◌, ℕ, suc, ◌-◌, ◌<◌, ◌≤◌, List, [], ◌∷◌, ◌++◌, length, map, drop, sym, ap, ◌∙◌, subst, arith, append_assoc, length-append, Some, None, inl, inr}
use Rattle.std.specs.List.{All, concat, range_with_len, AllByRecursion}
use Rattle.std.proofs.lemmas.List.Elements.{recursion_from_All}
use Rattle.std.proofs.lemmas.Bool.{cases_lt}
use Rattle.cdg_io.specs.Run.{give, run_gives}
use Rattle.bit_lists.specs.Counting.{below}
use Rattle.rw_interleave.specs.Interleave.{word_of, whole_of_slots}
use Rattle.rw_interleave.specs.Gathering.{gathered, gather_next, gather_gives}
use Rattle.rw_interleave.proofs.Ranges.{map_range, map_later}
use Rattle.rw_interleave.proofs.Places.{word_of-later, word_of-first}

abbrev words : List (List ℕ) → List (List ℕ)
words slots = map (word_of (concat slots)) (below (whole_of_slots (length slots)))

-- a step before the window is full
pub gather_short : (w : List (List ℕ)) (s : List ℕ) → length w < 7
    → (gather_next w s ≡ w ++ s ∷ []) × (gather_gives w s ≡ None)
unfolding gather_next gather_gives
gather_short w s lt =
    let none : length (w ++ s ∷ []) - 7 ≡ 0 = omega (arith, length-append w (s ∷ [])) in
    (ap (λ n. drop n (w ++ s ∷ [])) none, grind arith)

-- a step of a full window
pub gather_full : (x : List ℕ) (v : List (List ℕ)) (s : List ℕ) → length v ≡ 6
    → (gather_next (x ∷ v) s ≡ v ++ s ∷ []) × (gather_gives (x ∷ v) s ≡ Some (gathered ((x ∷ v) ++ s ∷ [])))
unfolding gather_next gather_gives
gather_full x v s six =
    let one : length ((x ∷ v) ++ s ∷ []) - 7 ≡ 1 = omega (arith, length-append v (s ∷ [])) in
    (ap (λ n. drop n ((x ∷ v) ++ s ∷ [])) one, grind arith)

-- one more word, if at least seven other slots follow a slot
words_more : (x : List ℕ) (slots : List (List ℕ)) → length x ≡ 24 → 7 ≤ length slots
    → word_of (concat (x ∷ slots)) 0 ∷ words slots ≡ words (x ∷ slots)
words_more x slots size enough =
    let count : whole_of_slots (length (x ∷ slots)) ≡ suc (whole_of_slots (length slots)) = omega arith in
    let later : map (word_of (concat (x ∷ slots))) (range_with_len 1 (whole_of_slots (length slots)))
    ≡ words slots =
    map_later (word_of (concat (x ∷ slots))) 0 _
    ∙ map_range _ _ 0 _ (λ n from to. word_of-later x (concat slots) n size) in
    ap (λ l. word_of (concat (x ∷ slots)) 0 ∷ l) (sym later)
    ∙ ap (λ n. map (word_of (concat (x ∷ slots))) (below n)) (sym count)

-- the words that slots complete, from a window
abbrev run : List (List ℕ) → List (List ℕ) → List (List ℕ)
run w slots = run_gives gather_next gather_gives w slots

step_short : (w : List (List ℕ)) (s : List ℕ) (slots : List (List ℕ)) → length w < 7
    → run (w ++ s ∷ []) slots ≡ words ((w ++ s ∷ []) ++ slots)
    → run w (s ∷ slots) ≡ words (w ++ s ∷ slots)
step_short w s slots lt ih =
    let (next, gives) = gather_short w s lt in
    ap (λ o. give o (run (gather_next w s) slots)) gives
    ∙ ap (λ u. run u slots) next
    ∙ ih
    ∙ ap words (append_assoc w (s ∷ []) slots)

step_full : (x : List ℕ) (v : List (List ℕ)) (s : List ℕ) (slots : List (List ℕ)) → length v ≡ 6
    → AllByRecursion (λ (slot : List ℕ). length slot ≡ 24) (x ∷ (v ++ s ∷ slots))
    → run (v ++ s ∷ []) slots ≡ words ((v ++ s ∷ []) ++ slots)
    → run (x ∷ v) (s ∷ slots) ≡ words (x ∷ (v ++ s ∷ slots))
step_full x v s slots six all ih =
    let (next, gives) = gather_full x v s six in
    let same : (v ++ s ∷ []) ++ slots ≡ v ++ s ∷ slots = append_assoc v (s ∷ []) slots in
    let eight : length (x ∷ (v ++ s ∷ [])) ≡ 8 = omega (arith, length-append v (s ∷ [])) in
    let all_there =
    subst (λ l. AllByRecursion (λ (slot : List ℕ). length slot ≡ 24) (x ∷ l)) (sym same) all in
    let first : word_of (concat (x ∷ (v ++ s ∷ slots))) 0 ≡ gathered (x ∷ (v ++ s ∷ [])) =
    ap (λ l. word_of (concat (x ∷ l)) 0) (sym same)
    ∙ word_of-first (x ∷ (v ++ s ∷ [])) slots all_there eight in
    ap (λ o. give o (run (gather_next (x ∷ v) s) slots)) gives
    ∙ ap (λ u. gathered (x ∷ (v ++ s ∷ [])) ∷ run u slots) next
    ∙ ap (λ l. gathered (x ∷ (v ++ s ∷ [])) ∷ l) (ih ∙ ap words same)
    ∙ ap (λ w. w ∷ words (v ++ s ∷ slots)) (sym first)
    ∙ words_more x (v ++ s ∷ slots) all.0 (omega (arith, length-append v (s ∷ slots)))

-- the run from a window: the words of the window and the slots that follow
pub gathers : (w slots : List (List ℕ)) → length w ≤ 7
    → AllByRecursion (λ (slot : List ℕ). length slot ≡ 24) (w ++ slots)
    → run w slots ≡ words (w ++ slots)
gathers w [] fits all =
    let none : whole_of_slots (length (w ++ [])) ≡ 0 = omega (arith, length-append w []) in
    sym (ap (λ n. map (word_of (concat (w ++ []))) (below n)) none)
gathers [] (s ∷ slots) fits all =
    step_short [] s slots (omega arith) (gathers (s ∷ []) slots (omega arith) all)
gathers (x ∷ v) (s ∷ slots) fits all =
    let tail : (v ++ s ∷ []) ++ slots ≡ v ++ s ∷ slots = append_assoc v (s ∷ []) slots in
    let all_there =
    subst (λ l. AllByRecursion (λ (slot : List ℕ). length slot ≡ 24) (x ∷ l)) (sym tail) all in
    elim (cases_lt (length v) 6) [
      | inl lt ↦
          step_short (x ∷ v) s slots (omega arith)
          (gathers (x ∷ (v ++ s ∷ [])) slots (omega (arith, length-append v (s ∷ []))) all_there)
      | inr ge ↦
          step_full x v s slots (omega arith) all
          (gathers (v ++ s ∷ []) slots (omega (arith, length-append v (s ∷ []))) all_there.1)
    ]

pub gathers_all : (slots : List (List ℕ)) → All (λ slot. length slot ≡ 24) slots → run [] slots ≡ words slots
gathers_all slots all =
    gathers [] slots (omega arith) (recursion_from_All (λ (slot : List ℕ). length slot ≡ 24) slots all)
