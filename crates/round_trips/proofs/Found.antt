-- Intact and damaged slots, and the counts of their packs.
use Rattle.std.proofs.Common.{◌≡◌, ℕ, zero, suc, ◌+◌, ◌<◌, ◌⊎◌, Bool, true, false, not, cond, List, [], ◌∷◌, length, get_or, replicate, count_by, inl, inr, refl, sym, ap, subst, ◌∙◌, arith}
use Rattle.std.proofs.lemmas.Bool.{and_parts, and_left, and_right, not_from_true, not_from_false}
use Rattle.std.proofs.lemmas.List.Sums.{sum_by-cons}
use Rattle.cdtext_packs.specs.Packs.{check_matches, is_first_block, is_good, is_of_other_block}
use Rattle.round_trips.specs.Damage.{AreFound, count_whole, count_hurt}

-- the packs of intact slots are good, and the checks of the others do not match
abbrev pub AreMarked : List Bool → List (List ℕ) → Type 0
AreMarked [] [] = Unit {0}
AreMarked (true ∷ whole) (found ∷ rest) = (is_good found ≡ true) × AreMarked whole rest
AreMarked (false ∷ whole) (found ∷ rest) = (check_matches found ≡ false) × AreMarked whole rest
AreMarked whole rest = ⊥

pub marked : (whole : List Bool) (written found : List (List ℕ)) → AreFound whole written found
    → ((i : ℕ) → i < length written → is_good (get_or written i []) ≡ true) → AreMarked whole found
marked [] [] [] are good = tt
marked [] [] (f ∷ found) are good = absurd are
marked [] (p ∷ written) found are good = absurd are
marked (true ∷ whole) [] found are good = absurd are
marked (true ∷ whole) (p ∷ written) [] are good = absurd are
marked (true ∷ whole) (p ∷ written) (f ∷ found) are good = (
  ap is_good are.0 ∙ good 0 (omega arith),
  marked whole written found are.1 (λ i less. good (suc i) (omega arith)),
)
marked (false ∷ whole) [] found are good = absurd are
marked (false ∷ whole) (p ∷ written) [] are good = absurd are
marked (false ∷ whole) (p ∷ written) (f ∷ found) are good =
    (are.0, marked whole written found are.1 (λ i less. good (suc i) (omega arith)))

-- a fact about each written pack holds for each pack that is found, unless its check does not match
pub found_each : (P : List ℕ → Type 0) (whole : List Bool) (written found : List (List ℕ))
    → AreFound whole written found
    → ((i : ℕ) → i < length written → P (get_or written i [])) → (i : ℕ) → i < length found
    → (check_matches (get_or found i []) ≡ false) ⊎ P (get_or found i [])
found_each P [] [] [] are each i less = absurd (omega arith)
found_each P [] [] (f ∷ found) are each i less = absurd are
found_each P [] (p ∷ written) found are each i less = absurd are
found_each P (true ∷ whole) [] found are each i less = absurd are
found_each P (true ∷ whole) (p ∷ written) [] are each i less = absurd are
found_each P (true ∷ whole) (p ∷ written) (f ∷ found) are each zero less =
    inr (subst P (sym are.0) (each 0 (omega arith)))
found_each P (true ∷ whole) (p ∷ written) (f ∷ found) are each (suc i) less =
    found_each P whole written found are.1 (λ k inside. each (suc k) (omega arith)) i (omega arith)
found_each P (false ∷ whole) [] found are each i less = absurd are
found_each P (false ∷ whole) (p ∷ written) [] are each i less = absurd are
found_each P (false ∷ whole) (p ∷ written) (f ∷ found) are each zero less = inl are.0
found_each P (false ∷ whole) (p ∷ written) (f ∷ found) are each (suc i) less =
    found_each P whole written found are.1 (λ k inside. each (suc k) (omega arith)) i (omega arith)

pub all_whole : (written : List (List ℕ)) → AreFound (replicate (length written) true) written written
all_whole [] = tt
all_whole (p ∷ written) = (refl, all_whole written)

pub all_hurt : (found : List (List ℕ))
    → ((i : ℕ) → i < length found → check_matches (get_or found i []) ≡ false)
    → AreMarked (replicate (length found) false) found
all_hurt [] each = tt
all_hurt (f ∷ found) each = (each 0 (omega arith), all_hurt found (λ i less. each (suc i) (omega arith)))

-- Counts

count_next : {X : Type 0} → (p : X → Bool) (x : X) (xs : List X) (b : Bool) → p x ≡ b
    → count_by p (x ∷ xs) ≡ cond b 1 0 + count_by p xs
count_next p x xs b is =
    sum_by-cons (λ y. cond {A = ℕ} (p y) 1 0) x xs ∙ ap (λ (c : Bool). cond {A = ℕ} c 1 0 + count_by p xs) is

counts_are : (p : List ℕ → Bool) (q : Bool → Bool) → ((pack : List ℕ) → is_good pack ≡ true → p pack ≡ q true)
    → ((pack : List ℕ) → check_matches pack ≡ false → p pack ≡ q false)
    → (whole : List Bool) (found : List (List ℕ)) → AreMarked whole found
    → count_by p found ≡ count_by q whole
counts_are p q good bad [] [] are = refl
counts_are p q good bad [] (f ∷ found) are = absurd are
counts_are p q good bad (true ∷ whole) [] are = absurd are
counts_are p q good bad (true ∷ whole) (f ∷ found) are =
    count_next p f found (q true) (good f are.0)
    ∙ ap (λ (n : ℕ). cond {A = ℕ} (q true) 1 0 + n) (counts_are p q good bad whole found are.1)
    ∙ sym (count_next q true whole (q true) refl)
counts_are p q good bad (false ∷ whole) [] are = absurd are
counts_are p q good bad (false ∷ whole) (f ∷ found) are =
    count_next p f found (q false) (bad f are.0)
    ∙ ap (λ (n : ℕ). cond {A = ℕ} (q false) 1 0 + n) (counts_are p q good bad whole found are.1)
    ∙ sym (count_next q false whole (q false) refl)

good_checked : (pack : List ℕ) → is_good pack ≡ true → check_matches pack ≡ true
good_checked pack good = (and_parts (check_matches pack) (is_first_block pack) good).0

good_first : (pack : List ℕ) → is_good pack ≡ true → is_first_block pack ≡ true
good_first pack good = (and_parts (check_matches pack) (is_first_block pack) good).1

pub count_good : (whole : List Bool) (found : List (List ℕ)) → AreMarked whole found
    → count_by is_good found ≡ count_whole whole
count_good =
    counts_are is_good (λ (is : Bool). is) (λ pack good. good)
    (λ pack bad. and_left (check_matches pack) (is_first_block pack) bad)

pub count_bad : (whole : List Bool) (found : List (List ℕ)) → AreMarked whole found
    → count_by (λ pack. not (check_matches pack)) found ≡ count_hurt whole
count_bad =
    counts_are (λ pack. not (check_matches pack)) (λ (is : Bool). not is)
    (λ pack good. not_from_true (check_matches pack) (good_checked pack good))
    (λ pack bad. not_from_false (check_matches pack) bad)

none_more : (n : ℕ) → 0 + n ≡ n
none_more n = omega arith

one_more : (n : ℕ) → 1 + n ≡ suc n
one_more n = omega arith

none_counted : (whole : List Bool) → count_by (λ (is : Bool). false) whole ≡ 0
none_counted [] = refl
none_counted (w ∷ whole) =
    count_next (λ (is : Bool). false) w whole false refl ∙ none_more _ ∙ none_counted whole

pub count_other : (whole : List Bool) (found : List (List ℕ)) → AreMarked whole found
    → count_by is_of_other_block found ≡ 0
count_other whole found are =
    counts_are is_of_other_block (λ (is : Bool). false)
    (λ pack good. and_right (check_matches pack) (not (is_first_block pack))
    (not_from_true (is_first_block pack) (good_first pack good)))
    (λ pack bad. and_left (check_matches pack) (not (is_first_block pack)) bad) whole found are
    ∙ none_counted whole

count_same : (q : Bool → Bool) (b c : Bool) → q b ≡ c → (n : ℕ) → count_by q (replicate n b) ≡ cond c n 0
count_same q b true is zero = refl
count_same q b true is (suc n) =
    count_next q b (replicate n b) true is ∙ one_more _ ∙ ap suc (count_same q b true is n)
count_same q b false is zero = refl
count_same q b false is (suc n) =
    count_next q b (replicate n b) false is ∙ none_more _ ∙ count_same q b false is n

pub all_are_whole : (n : ℕ) → count_whole (replicate n true) ≡ n
all_are_whole = count_same (λ (is : Bool). is) true true refl

pub none_is_hurt : (n : ℕ) → count_hurt (replicate n true) ≡ 0
none_is_hurt = count_same (λ (is : Bool). not is) true false refl

pub none_is_whole : (n : ℕ) → count_whole (replicate n false) ≡ 0
none_is_whole = count_same (λ (is : Bool). is) false false refl

pub all_are_hurt : (n : ℕ) → count_hurt (replicate n false) ≡ n
all_are_hurt = count_same (λ (is : Bool). not is) false true refl
