-- Strings one after another, with a zero byte after each.
use Rattle.std.proofs.Common.{◌≡◌, ℕ, zero, suc, ◌+◌, ◌<◌, ◌≤◌, Vec, Global, List, [], ◌∷◌, ◌++◌, length, get_or, take, map, refl, sym, ap, ◌∙◌, arith}
use Rattle.std.proofs.lemmas.Grind.{flat_map-append}
use Rattle.std.proofs.lemmas.List.{append_assoc, append-nil, length-append, length-map, get_or-map, get_or_append_left, get_or-append-add, take_more}
use Rattle.std.proofs.lemmas.List.FromFn.{get_or-map-range_with_len, length-map-range_with_len}
use Rattle.bit_lists.specs.Counting.{below}
use Rattle.cdtext_packs.specs.Writing.{joined, holders}

of_first : (first : ℕ) (s : List ℕ) (rest : List (ℕ × ℕ)) (offset : ℕ) → offset ≤ length s
    → get_or (map (λ o. (first, o)) (below (length s + 1)) ++ rest) offset (0, 0) ≡ (first, offset)
of_first first s rest offset within =
    let f : ℕ → ℕ × ℕ = λ o. (first, o) in
    let size = length-map-range_with_len f 0 (length s + 1) in
    get_or_append_left (map f (below (length s + 1))) rest (0, 0) offset (omega arith)
    ∙ get_or-map-range_with_len f 0 (length s + 1) offset offset (0, 0) (omega arith) (omega arith)

of_later : (first : ℕ) (s : List ℕ) (rest : List (ℕ × ℕ)) (n : ℕ)
    → get_or (map (λ o. (first, o)) (below (length s + 1)) ++ rest) (length s + 1 + n) (0, 0)
    ≡ get_or rest n (0, 0)
of_later first s rest n =
    let f : ℕ → ℕ × ℕ = λ o. (first, o) in
    let size = length-map-range_with_len f 0 (length s + 1) in
    ap (λ (k : ℕ). get_or (map f (below (length s + 1)) ++ rest) (k + n) (0, 0)) (sym size)
    ∙ get_or-append-add (map f (below (length s + 1))) rest n (0, 0)

-- the next string after these
pub joined_more : (xs : List (List ℕ)) (i : ℕ) (bytes more : List ℕ) → i < length xs
    → bytes ≡ joined (take i xs) → more ≡ (bytes ++ get_or xs i []) ++ 0 ∷ []
    → more ≡ joined (take (i + 1) xs)
joined_more xs i bytes more inside are grown =
    let string = get_or xs i [] in
    grown ∙ append_assoc bytes string (0 ∷ []) ∙ ap (λ (l : List ℕ). l ++ (string ++ 0 ∷ [])) are
    ∙ sym (ap joined (take_more xs i [] inside) ∙ flat_map-append (λ s. s ++ 0 ∷ []) (take i xs) (string ∷ [])
    ∙ ap (λ (l : List ℕ). joined (take i xs) ++ l) (append-nil (string ++ 0 ∷ [])))

pub length-joined_more : (xs : List (List ℕ)) (i : ℕ) → i < length xs
    → length (joined (take (i + 1) xs)) ≡ length (joined (take i xs)) + (length (get_or xs i []) + 1)
length-joined_more xs i inside =
    let bytes = joined (take i xs) in
    let string = get_or xs i [] in
    let more = ap length (joined_more xs i bytes ((bytes ++ string) ++ 0 ∷ []) inside refl refl) in
    let one = length-append (bytes ++ string) (0 ∷ []) in
    let two = length-append bytes string in
    omega arith

-- `string` is string i of the list
pub record IsStringAt (xs : List (List ℕ)) (i : ℕ) (string : List ℕ) : Type 0 where
  pub inside : i < length xs
  pub string_is : string ≡ get_or xs i []

pub string_at : (vectors : List (Vec ℕ Global)) (xs : List (List ℕ)) (i : ℕ) (vector : Vec ℕ Global)
    → map (λ v. v.items) vectors ≡ xs → i < length vectors → vector ≡ get_or vectors i vector
    → IsStringAt xs i vector.items
string_at vectors xs i vector are below is =
    let size = length-map vectors (λ v. v.items) in
    let same = ap length are in
    record {
      inside = omega arith;
      string_is =
          ap (λ v. v.items) is ∙ sym (get_or-map (λ v. v.items) vectors i vector [] below)
          ∙ ap (λ (ys : List (List ℕ)). get_or ys i []) are;
    }

-- the byte at an offset in string i belongs to string i
pub holders-at : (first : ℕ) (xs : List (List ℕ)) (i offset : ℕ) → i < length xs
    → offset ≤ length (get_or xs i [])
    → get_or (holders first xs) (length (joined (take i xs)) + offset) (0, 0) ≡ (first + i, offset)
holders-at first [] i offset inside within = absurd (omega arith)
holders-at first (s ∷ rest) zero offset inside within =
    ap (λ (k : ℕ). get_or (holders first (s ∷ rest)) k (0, 0)) (omega arith)
    ∙ of_first first s (holders (first + 1) rest) offset within
    ∙ ap (λ (k : ℕ). (k, offset)) (omega arith)
holders-at first (s ∷ rest) (suc i) offset inside within =
    let before = length-append (s ++ 0 ∷ []) (joined (take i rest)) in
    let one = length-append s (0 ∷ []) in
    let place : length (joined (take (suc i) (s ∷ rest))) + offset
    ≡ length s + 1 + (length (joined (take i rest)) + offset) =
    omega arith in
    ap (λ (k : ℕ). get_or (holders first (s ∷ rest)) k (0, 0)) place
    ∙ of_later first s (holders (first + 1) rest) (length (joined (take i rest)) + offset)
    ∙ holders-at (first + 1) rest i offset (omega arith) within
    ∙ ap (λ (k : ℕ). (k, offset)) (omega arith)
