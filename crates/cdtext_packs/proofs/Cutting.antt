-- Bytes cut into parts of twelve and joined again, and strings cut at their zero bytes.
use Rattle.std.proofs.Common.{◌≡◌, ◌≢◌, ℕ, zero, suc, ◌+◌, ◌-◌, ◌*◌, ◌/◌, ◌≤◌, true, false, not, ◌&&◌, ◌==◌, if◌then◌else◌, List, [], ◌∷◌, ◌++◌, length, take, get_or, replicate, flat_map, fold, All, inl, inr, refl, sym, ap, ◌∙◌, arith}
use Rattle.std.specs.List.{slice_split, sum_by}
use Rattle.std.proofs.Math.Seq.{take-add, take-append-add}
use Rattle.std.proofs.lemmas.List.{append_assoc, append-nil, length-append, drop-append-le, take-replicate, map-id}
use Rattle.std.proofs.lemmas.List.FromFn.{map-range_with_len_more}
use Rattle.std.proofs.lemmas.List.Elements.{All-get_or, All-from_get_or}
use Rattle.std.proofs.lemmas.List.Splits.{slice_split_at}
use Rattle.std.proofs.lemmas.List.Sums.{sum_by-append}
use Rattle.std.proofs.lemmas.Bool.{cases_Bool, cond-false, and_parts, and_left, ne_eqb, eqb-true}
use Rattle.std.proofs.lemmas.Grind.{flat_map-append}
use Rattle.bit_lists.specs.Counting.{below}
use Rattle.cdtext_packs.specs.Texts.{are_empty, IsString}
use Rattle.cdtext_packs.specs.Writing.{joined, twelve}
use Rattle.cdtext_packs.specs.Reading.{is_zero, ends_in, strings_in, meant, resolved}

-- the first element of a list, and the others
pub all_first : {X : Type 0} (P : X → Type 0) (x : X) (xs : List X) → All P (x ∷ xs) → P x
all_first P x xs all = All-get_or P (x ∷ xs) 0 x (omega arith) all

pub all_rest : {X : Type 0} (P : X → Type 0) (x : X) (xs : List X) → All P (x ∷ xs) → All P xs
all_rest P x xs all = All-from_get_or P xs x (λ i inside. All-get_or P (x ∷ xs) (suc i) x (omega arith) all)

below_more : (k : ℕ) → below (k + 1) ≡ below k ++ k ∷ []
below_more k =
    sym (map-id (below (k + 1)))
    ∙ map-range_with_len_more (λ (n : ℕ). n) 0 k k (omega arith)
    ∙ ap (λ (xs : List ℕ). xs ++ k ∷ []) (map-id (below k))

-- the first parts of twelve, joined
together : (bytes : List ℕ) (count : ℕ) → 12 * count ≤ length bytes + 11
    → flat_map (twelve bytes) (below count) ≡ take (12 * count) (bytes ++ replicate 12 0)
together bytes zero within = refl
together bytes (suc c) within =
    let inside : 12 * c ≤ length bytes = omega arith in
    let more : suc c ≡ c + 1 = omega arith in
    ap (λ (k : ℕ). flat_map (twelve bytes) (below k)) more
    ∙ ap (flat_map (twelve bytes)) (below_more c) ∙ flat_map-append (twelve bytes) (below c) (c ∷ [])
    ∙ ap (λ (xs : List ℕ). flat_map (twelve bytes) (below c) ++ xs) (append-nil (twelve bytes c))
    ∙ ap (λ (xs : List ℕ). xs ++ twelve bytes c) (together bytes c (omega arith))
    ∙ ap (λ (xs : List ℕ). take (12 * c) (bytes ++ replicate 12 0) ++ take 12 xs)
    (sym (drop-append-le (12 * c) bytes (replicate 12 0) inside))
    ∙ sym (take-add (12 * c) 12 (bytes ++ replicate 12 0))
    ∙ ap (λ (k : ℕ). take k (bytes ++ replicate 12 0)) (omega arith)

pub all_together : (bytes : List ℕ)
    → flat_map (twelve bytes) (below ((length bytes + 11) / 12))
    ≡ bytes ++ replicate (12 * ((length bytes + 11) / 12) - length bytes) 0
all_together bytes =
    let pad = 12 * ((length bytes + 11) / 12) - length bytes in
    let few : 12 * ((length bytes + 11) / 12) - length bytes ≤ 12 = omega arith in
    let whole : 12 * ((length bytes + 11) / 12)
    ≡ length bytes + (12 * ((length bytes + 11) / 12) - length bytes) =
    omega arith in
    together bytes ((length bytes + 11) / 12) (omega arith)
    ∙ ap (λ (k : ℕ). take k (bytes ++ replicate 12 0)) whole
    ∙ take-append-add bytes (replicate 12 0) (12 * ((length bytes + 11) / 12) - length bytes)
    ∙ ap (λ (xs : List ℕ). bytes ++ xs)
    (take-replicate (12 * ((length bytes + 11) / 12) - length bytes) 12 0 few)

-- joined strings have a zero byte for each string
pub joined_ends : (strings : List (List ℕ)) (rest : List ℕ)
    → length strings ≤ ends_in (joined strings ++ rest)
joined_ends [] rest = omega arith
joined_ends (s ∷ strings) rest =
    let f : ℕ → ℕ = λ b. if is_zero b then 1 else 0 in
    let one = sum_by-append f (s ++ 0 ∷ []) (joined strings ++ rest) in
    let two = sum_by-append f s (0 ∷ []) in
    let same : ends_in (joined (s ∷ strings) ++ rest) ≡ ends_in ((s ++ 0 ∷ []) ++ (joined strings ++ rest)) =
    ap ends_in (append_assoc (s ++ 0 ∷ []) (joined strings) rest) in
    let later = joined_ends strings rest in
    let here : sum_by f (0 ∷ []) ≡ 1 = refl in
    omega arith

nonzero : (s : List ℕ) → IsString s → All (λ b. is_zero b ≡ false) s
nonzero s is =
    All-from_get_or (λ b. is_zero b ≡ false) s 0
    (λ i inside. ne_eqb (get_or s i 0) 0 (All-get_or (λ b. b ≢ 0) s i 0 inside is.nonzero))

pub joined_strings : (strings : List (List ℕ)) (rest : List ℕ) → All IsString strings
    → strings_in (length strings) (joined strings ++ rest) ≡ strings
joined_strings [] rest all = refl
joined_strings (s ∷ strings) rest all =
    let spelled : joined (s ∷ strings) ++ rest ≡ s ++ 0 ∷ (joined strings ++ rest) =
    append_assoc (s ++ 0 ∷ []) (joined strings) rest ∙ append_assoc s (0 ∷ []) (joined strings ++ rest) in
    ap (λ (xs : List ℕ). take (suc (length strings)) (slice_split is_zero xs)) spelled
    ∙ ap (take (suc (length strings)))
    (slice_split_at is_zero s 0 (joined strings ++ rest) (nonzero s (all_first IsString s strings all)) refl)
    ∙ ap (λ (xs : List (List ℕ)). s ∷ xs) (joined_strings strings rest (all_rest IsString s strings all))

no_tab : (before : List (List ℕ)) (s : List ℕ) → s ≢ 9 ∷ [] → meant before s ≡ s
no_tab before [] other = refl
no_tab before (x ∷ []) other = elim (cases_Bool (x == 9 && not (length before == 0))) [
  | inl tab ↦
      absurd
      (other (ap (λ (n : ℕ). n ∷ []) (eqb-true x 9 (and_parts (x == 9) (not (length before == 0)) tab).0)))
  | inr plain ↦
      cond-false (x == 9 && not (length before == 0)) (get_or before (length before - 1) []) (x ∷ []) plain
]
no_tab before (x ∷ y ∷ s) other =
    cond-false (length (x ∷ y ∷ s) == 1 && x == 9 && not (length before == 0))
    (get_or before (length before - 1) []) (x ∷ y ∷ s)
    (and_left (length (x ∷ y ∷ s) == 1 && x == 9) (not (length before == 0))
    (and_left (length (x ∷ y ∷ s) == 1) (x == 9) (ne_eqb (length (x ∷ y ∷ s)) 1 (λ e. omega arith))))

resolves : (done strings : List (List ℕ)) → All (λ s. s ≢ 9 ∷ []) strings
    → fold (λ before s. before ++ meant before s ∷ []) done strings ≡ done ++ strings
resolves done [] plain = sym (append-nil done)
resolves done (s ∷ strings) plain =
    ap (λ (x : List ℕ). fold (λ before t. before ++ meant before t ∷ []) (done ++ x ∷ []) strings)
    (no_tab done s (all_first (λ t. t ≢ 9 ∷ []) s strings plain))
    ∙ resolves (done ++ s ∷ []) strings (all_rest (λ t. t ≢ 9 ∷ []) s strings plain)
    ∙ append_assoc done (s ∷ []) strings

pub resolved_same : (strings : List (List ℕ)) → All (λ s. s ≢ 9 ∷ []) strings → resolved strings ≡ strings
unfolding resolved
resolved_same strings plain = resolves [] strings plain

-- if all strings are empty, the list is a list of empty strings
pub all_empty : (strings : List (List ℕ)) → are_empty strings ≡ true → strings ≡ replicate (length strings) []
all_empty [] none = refl
all_empty ([] ∷ strings) none = ap (λ (xs : List (List ℕ)). [] ∷ xs) (all_empty strings none)
all_empty ((b ∷ s) ∷ strings) none =
    absurd (let size =
    eqb-true (length (b ∷ s)) 0 (and_parts (length (b ∷ s) == 0) (are_empty strings) none).0 in
    omega arith)

pub joined_some : (strings : List (List ℕ)) → are_empty strings ≡ false → 1 ≤ length (joined strings)
joined_some [] some = absurd (let e : true ≡ false = some in cc)
joined_some (s ∷ strings) some =
    let one = length-append (s ++ 0 ∷ []) (joined strings) in
    let two = length-append s (0 ∷ []) in
    omega arith
