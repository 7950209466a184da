-- The last two words of a list, and the words before them.
use Rattle.std.proofs.Common.{◌≡◌, ◌≤◌, ◌+◌, ◌-◌, ℕ, List, [], ◌∷◌, ◌++◌, length, take, drop, get_or, String, string_bytes, length-append, sym, ap, ap₂, ◌∙◌, arith}
use Rattle.std.proofs.lemmas.List.{drop_all, drop_more, map-append, take-append-drop, take_all}
use Rattle.std.proofs.Math.Seq.{drop-append_seam, take-append_seam}
use Rattle.cdg_cmd.specs.Words.{texts}

last_two : {X : Type 0} (xs : List X) (x y : X) → 2 ≤ length xs → x ≡ get_or xs (length xs - 2) x
    → y ≡ get_or xs (length xs - 1) y
    → drop (length xs - 2) xs ≡ x ∷ y ∷ []
last_two {X = X} xs x y some first second =
    let n : ℕ = length xs - 2 in
    let next : n + 1 ≡ length xs - 1 = omega (arith, some) in
    let end : n + 1 + 1 ≡ length xs = omega (arith, some) in
    let one : drop n xs ≡ get_or xs n x ∷ drop (n + 1) xs = drop_more xs n x (omega (arith, some)) in
    let two : drop (n + 1) xs ≡ get_or xs (n + 1) y ∷ drop (n + 1 + 1) xs =
    drop_more xs (n + 1) y (omega (arith, some)) in
    let none : drop (n + 1 + 1) xs ≡ [] = drop_all (n + 1 + 1) xs (omega (arith, end)) in
    one ∙ ap₂ (λ (a : X) (rest : List X). a ∷ rest) (sym first)
    (two ∙ ap₂ (λ (a : X) (rest : List X). a ∷ rest) (ap (λ (k : ℕ). get_or xs k y) next ∙ sym second) none)

pub with_last_two : {A : Type 0} (words : List (String A)) (x y : String A) → 2 ≤ length words
    → x ≡ get_or words (length words - 2) x → y ≡ get_or words (length words - 1) y
    → texts words ≡ texts (take (length words - 2) words) ++ string_bytes x ∷ string_bytes y ∷ []
with_last_two words x y some first second =
    ap (λ (ws : List (String _)). texts ws) (sym (take-append-drop (length words - 2) words)
    ∙ ap (λ (ws : List (String _)). take (length words - 2) words ++ ws)
    (last_two words x y some first second))
    ∙ map-append string_bytes (take (length words - 2) words) (x ∷ y ∷ [])

pub same_ends : {X : Type 0} (xs ys : List X) (a b c d : X) → xs ++ a ∷ b ∷ [] ≡ ys ++ c ∷ d ∷ []
    → (xs ≡ ys) × (a ≡ c) × (b ≡ d)
same_ends xs ys a b c d e =
    let size : length xs ≡ length ys =
    omega (arith, ap length e, length-append xs (a ∷ b ∷ []), length-append ys (c ∷ d ∷ [])) in
    let front : xs ≡ ys =
    sym (take-append_seam xs (a ∷ b ∷ []))
    ∙ ap₂ (λ (k : ℕ) (l : List _). take k l) size e
    ∙ take-append_seam ys (c ∷ d ∷ []) in
    let back : a ∷ b ∷ [] ≡ c ∷ d ∷ [] =
    sym (drop-append_seam xs (a ∷ b ∷ []))
    ∙ ap₂ (λ (k : ℕ) (l : List _). drop k l) size e
    ∙ drop-append_seam ys (c ∷ d ∷ []) in
    (front, cc, cc)

-- the words after the first two, as they are cut
pub after_two : {A : Type 0} (words : List (String A)) (a b : List ℕ) (rest : List (List ℕ))
    → texts words ≡ a ∷ b ∷ rest
    → rest ≡ texts (take (length words - 2) (drop 2 words))
after_two [] a b rest is = absurd (cc)
after_two (x ∷ []) a b rest is = absurd (cc)
after_two (x ∷ y ∷ more) a b rest is = let same : rest ≡ texts more = cc in
    same
    ∙ ap (λ (ws : List (String _)). texts ws) (sym (take_all (length (x ∷ y ∷ more) - 2) more (omega arith)))
