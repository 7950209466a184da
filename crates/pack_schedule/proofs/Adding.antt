-- The places of the window have together no more instructions than there are tile instructions.
use Rattle.std.proofs.Common.{◌≡◌, ℕ, zero, suc, ◌+◌, ◌/◌, ◌%◌, ◌≤◌, ◌==◌, Bool, true, false, cond, List, [], ◌∷◌, length, map, refl, sym, ap, ◌∙◌, subst, arith, All}
use Rattle.std.specs.Prelude.{sum_by}
use Rattle.std.specs.List.{range_with_len}
use Rattle.std.proofs.lemmas.List.Elements.{All-head, All-tail}
use Rattle.std.proofs.lemmas.List.Sums.{sum_by-cons}
use Rattle.cdg_instructions.specs.declared.instr.Instr.{Instr}
use Rattle.cdg_instructions.specs.declared.instr.Instr.TheVariants.{MemoryPreset, SetTile, XorTile}
use Rattle.pack_schedule.specs.Change.{window_places}
use Rattle.pack_schedule.proofs.Places.{place_of, places_in_order}
use Rattle.pack_schedule.proofs.TileTests.{by_test, and_both, eq_of}
use Rattle.pack_schedule.proofs.Own.{is_here, own}

-- the number of tile instructions since the memory was last cleared
abbrev pub tiles_in : List Instr → ℕ
tiles_in [] = 0
tiles_in (MemoryPreset colour repeat ∷ before) = 0
tiles_in (SetTile colour0 colour1 r c lines ∷ before) = suc (tiles_in before)
tiles_in (XorTile colour0 colour1 r c lines ∷ before) = suc (tiles_in before)
tiles_in (_ ∷ before) = tiles_in before

pub sum_le : {X : Type 0} (f g : X → ℕ) (xs : List X) → All (λ x. f x ≤ g x) xs → sum_by f xs ≤ sum_by g xs
sum_le f g [] all = omega arith
sum_le f g (x ∷ xs) all =
    omega (
      arith,
      sum_by-cons f x xs,
      sum_by-cons g x xs,
      All-head (λ x. f x ≤ g x) x xs all,
      sum_le f g xs (All-tail (λ x. f x ≤ g x) x xs all),
    )

sum_none : {X : Type 0} (xs : List X) → sum_by (λ (x : X). 0) xs ≡ 0
sum_none [] = refl
sum_none {X} (x ∷ xs) = omega (arith, sum_by-cons (λ (y : X). 0) x xs, sum_none xs)

length_if : (t : Bool) (instr : Instr) (rest : List Instr)
    → length (cond t (instr ∷ rest) rest) ≡ cond t 1 0 + length rest
length_if true instr rest = omega arith
length_if false instr rest = omega arith

one_more : {X : Type 0} (test : X → Bool) (rest : X → List Instr) (instr : Instr) (xs : List X)
    → sum_by (λ x. length (cond (test x) (instr ∷ rest x) (rest x))) xs
    ≡ sum_by (λ x. cond (test x) 1 0) xs + sum_by (λ x. length (rest x)) xs
one_more test rest instr [] = refl
one_more test rest instr (x ∷ xs) =
    omega (
      arith,
      sum_by-cons (λ x. length (cond (test x) (instr ∷ rest x) (rest x))) x xs,
      sum_by-cons (λ x. cond (test x) 1 0) x xs,
      sum_by-cons (λ x. length (rest x)) x xs,
      length_if (test x) instr (rest x),
      one_more test rest instr xs,
    )

-- how many of these places are the place (r, c)
abbrev pub matches : ℕ → ℕ → List (ℕ × ℕ) → ℕ
matches r c places = sum_by (λ (p : ℕ × ℕ). cond (is_here p.0 p.1 r c) 1 0) places

pub owned_few : (places : List (ℕ × ℕ)) (before : List Instr) → ((r c : ℕ) → matches r c places ≤ 1)
    → sum_by (λ (p : ℕ × ℕ). length (own p.0 p.1 before)) places ≤ tiles_in before
owned_few places [] few = omega (arith, sum_none places)
owned_few places (MemoryPreset colour repeat ∷ before) few = omega (arith, sum_none places)
owned_few places (SetTile colour0 colour1 r c lines ∷ before) few =
    omega (
      arith,
      one_more (λ (p : ℕ × ℕ). is_here p.0 p.1 r c) (λ (p : ℕ × ℕ). own p.0 p.1 before)
          (SetTile colour0 colour1 r c lines) places,
      few r c,
      owned_few places before few,
    )
owned_few places (XorTile colour0 colour1 r c lines ∷ before) few =
    omega (
      arith,
      one_more (λ (p : ℕ × ℕ). is_here p.0 p.1 r c) (λ (p : ℕ × ℕ). own p.0 p.1 before)
          (XorTile colour0 colour1 r c lines) places,
      few r c,
      owned_few places before few,
    )
owned_few places (_ ∷ before) few = owned_few places before few

-- ---- all places of the window are different

abbrev one_if : Bool → ℕ
one_if t = cond t 1 0

abbrev hits : ℕ → ℕ → ℕ → Bool
hits r c k = is_here (k / 48 + 1) (k % 48 + 1) r c

matches_none : (r c n a : ℕ) → ((k : ℕ) → a ≤ k → hits r c k ≡ false)
    → matches r c (map place_of (range_with_len a n)) ≡ 0
matches_none r c zero a none = refl
matches_none r c (suc n) a none =
    let first : one_if (hits r c a) ≡ 0 = ap one_if (none a (omega arith)) in
    let rest = matches_none r c n (a + 1) (λ k from. none k (omega (arith, from))) in
    sum_by-cons (λ (p : ℕ × ℕ). cond (is_here p.0 p.1 r c) 1 0) (place_of a)
    (map place_of (range_with_len (a + 1) n))
    ∙ omega (arith, first, rest)

one_place : (r c a k : ℕ) → hits r c a ≡ true → hits r c k ≡ true → a ≡ k
one_place r c a k one two =
    let first = and_both (r == a / 48 + 1) (c == a % 48 + 1) one in
    let second = and_both (r == k / 48 + 1) (c == k % 48 + 1) two in
    let row_a = eq_of r (a / 48 + 1) first.0 in
    let column_a = eq_of c (a % 48 + 1) first.1 in
    let row_k = eq_of r (k / 48 + 1) second.0 in
    let column_k = eq_of c (k % 48 + 1) second.1 in
    omega (arith, row_a, column_a, row_k, column_k)

matches_few : (r c n a : ℕ) → matches r c (map place_of (range_with_len a n)) ≤ 1
matches_few r c zero a = omega arith
matches_few r c (suc n) a =
    let all =
    sum_by-cons (λ (p : ℕ × ℕ). cond (is_here p.0 p.1 r c) 1 0) (place_of a)
    (map place_of (range_with_len (a + 1) n)) in
    by_test (hits r c a) (λ yes.
    let first : one_if (hits r c a) ≡ 1 = ap one_if yes in
    let rest =
    matches_none r c n (a + 1) (λ k from. by_test (hits r c k)
    (λ also. absurd (omega (arith, one_place r c a k yes also, from))) (λ other. other)) in
    omega (arith, all, first, rest))
    (λ other.
    let first : one_if (hits r c a) ≡ 0 = ap one_if other in
    omega (arith, all, first, matches_few r c n (a + 1)))

pub window_few : (r c : ℕ) → matches r c window_places ≤ 1
window_few r c =
    subst (λ (places : List (ℕ × ℕ)). matches r c places ≤ 1) (sym places_in_order) (matches_few r c 768 0)
