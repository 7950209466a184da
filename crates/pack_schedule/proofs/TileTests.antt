-- The results of tests: of equal numbers, of halves of the table of colours, and of the pixels of a tile.
use Rattle.std.proofs.Common.{◌≡◌, ℕ, suc, ◌+◌, ◌/◌, ◌<◌, ◌≤◌, ◌==◌, nat_le, nat_lt, ◌&&◌, inl, inr, Bool, true, false, refl, ap₂, arith}
use Rattle.std.proofs.lemmas.Bool.Decides.{eqb_tells, leb_tells}
use Rattle.cdg_screen.specs.Standing.{covers}
use Rattle.pack_schedule.proofs.Tiles.{and_four, is_le, tile_x, tile_y}

pub by_test : {P : Type 0} (a : Bool) → (a ≡ true → P) → (a ≡ false → P) → P
by_test true f g = f refl
by_test false f g = g refl

pub and_both : (a b : Bool) → (a && b) ≡ true → (a ≡ true) × (b ≡ true)
and_both true true e = (refl, refl)
and_both true false e = (refl, e)
and_both false b e = (e, absurd (cc))

pub eq_of : (a b : ℕ) → (a == b) ≡ true → a ≡ b
eq_of a b e = elim (eqb_tells a b) [ inl same ↦ same.1 | inr other ↦ absurd (cc) ]

pub is_eq : (a b : ℕ) → a ≡ b → (a == b) ≡ true
is_eq a b e = elim (eqb_tells a b) [ inl same ↦ same.0 | inr other ↦ absurd (other.1 e) ]

pub are_eq : (a b c d : ℕ) → a ≡ b → c ≡ d → ((a == b) && (c == d)) ≡ true
are_eq a b c d one two = ap₂ (λ s t. s && t) (is_eq a b one) (is_eq c d two)

pub is_low : (n : ℕ) → n < 8 → nat_lt n 8 ≡ true
is_low n lt =
    elim (leb_tells (suc n) 8)
    [ inl decides ↦ decides.0 | inr decides ↦ absurd (omega (arith, lt, decides.1)) ]

pub is_high : (n : ℕ) → nat_lt (8 + n) 8 ≡ false
is_high n =
    elim (leb_tells (suc (8 + n)) 8)
    [ inl decides ↦ absurd (omega (arith, decides.1)) | inr decides ↦ decides.0 ]

-- the tile of a place covers its pixels, and no other tile does
pub covers_here : (row column p : ℕ) → row ≤ 17 → column ≤ 49 → p < 72
    → covers row column (tile_x column p) (tile_y row p) ≡ true
covers_here row column p r c lt =
    and_four (nat_le row 17) (nat_le column 49) (tile_x column p / 6 == column) (tile_y row p / 12 == row)
    (is_le row 17 r) (is_le column 49 c) (is_eq (tile_x column p / 6) column (omega arith))
    (is_eq (tile_y row p / 12) row (omega (arith, lt)))

and_last : (a b c d : Bool) → (a && b && c && d) ≡ true → (c ≡ true) × (d ≡ true)
and_last true true true true e = (refl, refl)
and_last true true true false e = (refl, e)
and_last true true false d e = absurd (cc)
and_last true false c d e = absurd (cc)
and_last false b c d e = absurd (cc)

pub covers_only : (row column row' column' p : ℕ) → p < 72 → (row ≡ row' → column ≡ column' → ⊥)
    → covers row column (tile_x column' p) (tile_y row' p) ≡ false
covers_only row column row' column' p lt apart =
    by_test (covers row column (tile_x column' p) (tile_y row' p)) (λ yes.
    let tests =
    and_last (nat_le row 17) (nat_le column 49) (tile_x column' p / 6 == column) (tile_y row' p / 12 == row)
    yes in
    absurd (apart (omega (arith, eq_of (tile_y row' p / 12) row tests.1, lt))
    (omega (arith, eq_of (tile_x column' p / 6) column tests.0)))) (λ fails. fails)
