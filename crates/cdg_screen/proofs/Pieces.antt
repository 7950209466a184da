-- Texts that are written piece by piece.
use Rattle.std.proofs.Common.{◌≡◌, ℕ, zero, suc, ◌+◌, ◌-◌, ◌<◌, List, [], ◌∷◌, ◌++◌, length, take, flat_map, refl, sym, ap, subst, ◌∙◌, append_assoc, arith}
use Rattle.std.proofs.lemmas.Grind.{flat_map-append}
use Rattle.std.proofs.Math.Seq.{take-append-add}
use Rattle.std.proofs.lemmas.List.{take-append-le, length-append, append-nil}
use Rattle.std.specs.List.{range_with_len}
use Rattle.std.specs.declared.option.Option.{Option}
use Rattle.std.specs.Io.KnownBytes.{Appends}
use Rattle.std.proofs.KnownBytes.{Appends-trans}
use Rattle.cdg_io.specs.Moves.{AppendsPrefix}
use Rattle.bit_lists.specs.Counting.{below}

range_more : (a n : ℕ) → range_with_len a (suc n) ≡ range_with_len a n ++ (a + n) ∷ []
range_more a zero = let e : a ≡ a + 0 = omega arith in ap (λ k. k ∷ []) e
range_more a (suc n) = let e : a + 1 + n ≡ a + suc n = omega arith in
    ap (λ xs. a ∷ xs) (range_more (a + 1) n ∙ ap (λ k. range_with_len (a + 1) n ++ k ∷ []) e)

below_more : (n : ℕ) → below (suc n) ≡ below n ++ n ∷ []
below_more n = let e : 0 + n ≡ n = omega arith in range_more 0 n ∙ ap (λ k. below n ++ k ∷ []) e

-- one more piece
pub pieces_more : (f : ℕ → List ℕ) (n : ℕ) → flat_map f (below (suc n)) ≡ flat_map f (below n) ++ f n
pieces_more f n =
    ap (flat_map f) (below_more n)
    ∙ flat_map-append f (below n) (n ∷ [])
    ∙ ap (λ xs. flat_map f (below n) ++ xs) (append-nil (f n))

-- the first pieces are at the front of all pieces
pub pieces_front : (f : ℕ → List ℕ) (n k m : ℕ) → m ≡ k + n
    → (rest : List ℕ) × (flat_map f (below m) ≡ flat_map f (below n) ++ rest)
pieces_front f n zero m at =
    let e : m ≡ n = omega arith in
    ([], ap (λ j. flat_map f (below j)) e ∙ sym (append-nil (flat_map f (below n))))
pieces_front f n (suc k) m at =
    let (rest, e) = pieces_front f n k (k + n) refl in
    let last : m ≡ suc (k + n) = omega arith in (
      rest ++ f (k + n),
      ap (λ j. flat_map f (below j)) last
          ∙ pieces_more f (k + n)
          ∙ ap (λ xs. xs ++ f (k + n)) e
          ∙ append_assoc (flat_map f (below n)) rest (f (k + n)),
    )

-- a prefix of the next piece is a prefix of the whole text
pub prefix_on : (a b c : Option (List ℕ)) (xs ys zs whole : List ℕ) → Appends a b xs → AppendsPrefix b c ys
    → whole ≡ xs ++ (ys ++ zs)
    → AppendsPrefix a c whole
prefix_on a b c xs ys zs whole put (n, within, more) e =
    let all : length whole ≡ length xs + length (ys ++ zs) = ap length e ∙ length-append xs (ys ++ zs) in
    let part : take (length xs + n) whole ≡ xs ++ take n ys =
    ap (take (length xs + n)) e
    ∙ take-append-add xs (ys ++ zs) n
    ∙ ap (λ l. xs ++ l) (take-append-le n ys zs within) in (
      length xs + n,
      omega (arith, length-append ys zs),
      subst (Appends a c) (sym part) (Appends-trans a b c _ _ put more),
    )

pub prefix_first : (a c : Option (List ℕ)) (ys zs whole : List ℕ) → AppendsPrefix a c ys → whole ≡ ys ++ zs
    → AppendsPrefix a c whole
prefix_first a c ys zs whole (n, within, more) e =
    let part : take n whole ≡ take n ys = ap (take n) e ∙ take-append-le n ys zs within in
    (n, omega (arith, ap length e, length-append ys zs), subst (Appends a c) (sym part) more)

-- The header and the first pieces were written, and a prefix of the next piece.
pub prefix_of_pieces : (a b c : Option (List ℕ)) (head : List ℕ) (f : ℕ → List ℕ) (count n : ℕ) → n < count
    → Appends a b (head ++ flat_map f (below n)) → AppendsPrefix b c (f n)
    → AppendsPrefix a c (head ++ flat_map f (below count))
prefix_of_pieces a b c head f count n lt put part =
    let (rest, e) = pieces_front f (suc n) (count - suc n) count (omega arith) in
    let front : flat_map f (below count) ≡ flat_map f (below n) ++ (f n ++ rest) =
    e ∙ ap (λ xs. xs ++ rest) (pieces_more f n) ∙ append_assoc (flat_map f (below n)) (f n) rest in
    prefix_on a b c (head ++ flat_map f (below n)) (f n) rest _ put part
    (ap (λ xs. head ++ xs) front ∙ sym (append_assoc head (flat_map f (below n)) (f n ++ rest)))

-- The first pieces and the next piece were written.
pub one_piece_more : (a b c : Option (List ℕ)) (head : List ℕ) (f : ℕ → List ℕ) (n : ℕ)
    → Appends a b (head ++ flat_map f (below n)) → Appends b c (f n)
    → Appends a c (head ++ flat_map f (below (n + 1)))
one_piece_more a b c head f n put more =
    let e : n + 1 ≡ suc n = omega arith in
    subst (Appends a c)
    (append_assoc head (flat_map f (below n)) (f n)
    ∙ ap (λ xs. head ++ xs) (sym (pieces_more f n))
    ∙ ap (λ k. head ++ flat_map f (below k)) (sym e))
    (Appends-trans a b c _ _ put more)

-- A piece of three bytes was added.
pub three_more : (f : ℕ → List ℕ) (n : ℕ) (items one two three : List ℕ) (a b c : ℕ)
    → items ≡ flat_map f (below n) → one ≡ items ++ a ∷ [] → two ≡ one ++ b ∷ [] → three ≡ two ++ c ∷ []
    → f n ≡ a ∷ b ∷ c ∷ []
    → three ≡ flat_map f (below (n + 1))
three_more f n items one two three a b c so_far first second third piece =
    let e : n + 1 ≡ suc n = omega arith in
    let all : three ≡ ((items ++ a ∷ []) ++ b ∷ []) ++ c ∷ [] = cc in
    let joined : ((items ++ a ∷ []) ++ b ∷ []) ++ c ∷ [] ≡ items ++ a ∷ b ∷ c ∷ [] = simp append_assoc in
    all
    ∙ joined
    ∙ ap (λ xs. xs ++ a ∷ b ∷ c ∷ []) so_far
    ∙ ap (λ xs. flat_map f (below n) ++ xs) (sym piece)
    ∙ sym (pieces_more f n)
    ∙ ap (λ k. flat_map f (below k)) (sym e)
