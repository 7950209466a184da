-- The pixels that an instruction does not change.
use Rattle.std.proofs.Common.{◌≡◌, ◌/◌, ◌%◌, ◌==◌, ◌&&◌, ℕ, Bool, true, false, if◌then◌else◌, List, [], ◌∷◌, refl, ap, ◌∙◌, inl, inr, arith}
use Rattle.std.specs.Prelude.{bit_xor, nat_le}
use Rattle.std.proofs.lemmas.Bool.{cases_Bool}
use Rattle.std.proofs.lemmas.Bool.Decides.{nat_tests}
use Rattle.cdg_instructions.specs.Drawing.{tile_colour}
use Rattle.cdg_instructions.specs.declared.instr.Instr.{Instr}
use Rattle.cdg_instructions.specs.declared.instr.Instr.TheVariants.{Idle, Foreign, Unknown, MemoryPreset, BorderPreset, SetTile, XorTile, ScrollPreset, ScrollCopy, Transparency, ColoursLow, ColoursHigh}
use Rattle.cdg_screen.specs.Standing.{IsWholeStanding, Standing, covers, pixel_at, rows_of, standing_after}
use Rattle.cdg_screen.specs.Touched.{IsSameBeside, KeepsTheRest, touched_by}
use Rattle.cdg_screen.specs.declared.touching.Touched.TheVariants.{Nothing, Tile}
use Rattle.cdg_screen.proofs.Lists.{pixel_of_rows, rows_same}

beside : (now : Standing) → IsWholeStanding now → IsSameBeside now (standing_after now [])
beside now whole = record {
  border = ap (λ (s : Standing). s.border) whole;
  colours = ap (λ (s : Standing). s.colours) whole;
  levels = ap (λ (s : Standing). s.levels) whole;
}

-- a standing after drawing on one tile, by a function of the pixels before
abbrev drawn : Standing → ℕ → ℕ → (ℕ → ℕ → ℕ → ℕ) → Standing
drawn now row column draw = record (standing_after now []) {
  memory =
      rows_of
      (λ x y. if covers row column x y then draw x y (pixel_at now.memory x y) else pixel_at now.memory x y);
}

covered_column : (row column x y : ℕ) → covers row column x y ≡ true → x / 6 ≡ column
covered_column row column x y covered = grind (arith, nat_tests)

covered_row : (row column x y : ℕ) → covers row column x y ≡ true → y / 12 ≡ row
covered_row row column x y covered = grind (arith, nat_tests)

covers_none : (row column x y : ℕ) → (nat_le row 17 && nat_le column 49) ≡ false
    → covers row column x y ≡ false
covers_none row column x y outside = ap (λ b. b && x / 6 == column && y / 12 == row) outside

not_covered : (row column x y : ℕ) → ¬ ((x / 6 ≡ column) × (y / 12 ≡ row)) → covers row column x y ≡ false
not_covered row column x y out = elim (cases_Bool (covers row column x y)) [
  | inl covered ↦ absurd (out (covered_column row column x y covered, covered_row row column x y covered))
  | inr outside ↦ outside
]

tile_keeps : (inside : Bool) (now : Standing) (row column : ℕ) (draw : ℕ → ℕ → ℕ → ℕ)
    → (nat_le row 17 && nat_le column 49) ≡ inside → IsWholeStanding now
    → KeepsTheRest (if inside then Tile row column else Nothing) now (drawn now row column draw)
tile_keeps true now row column draw is whole = (
  λ x y x_lt y_lt out. pixel_of_rows
      (λ x y. if covers row column x y then draw x y (pixel_at now.memory x y) else pixel_at now.memory x y) x
      y
      x_lt y_lt
      ∙ ap (λ b. if b then draw x y (pixel_at now.memory x y) else pixel_at now.memory x y)
      (not_covered row column x y out),
  (let same = beside now whole in
      record { border = same.border; colours = same.colours; levels = same.levels }),
  (ap (λ (s : Standing). s.h) whole, ap (λ (s : Standing). s.v) whole),
)
tile_keeps false now row column draw is whole =
    let pixels =
    rows_same
    (λ x y. if covers row column x y then draw x y (pixel_at now.memory x y) else pixel_at now.memory x y)
    (pixel_at now.memory)
    (λ x y x_lt y_lt. ap (λ b. if b then draw x y (pixel_at now.memory x y) else pixel_at now.memory x y)
    (covers_none row column x y is)) in
    ap (λ (m : List (List ℕ)). record (standing_after now []) { memory = m }) pixels ∙ whole

pub keeps : (instr : Instr) (now : Standing) → IsWholeStanding now
    → KeepsTheRest (touched_by instr) now (standing_after now (instr ∷ []))
keeps Idle now whole = whole
keeps Foreign now whole = whole
keeps Unknown now whole = whole
keeps (MemoryPreset colour repeat) now whole = let same = beside now whole in
    record { border = same.border; colours = same.colours; levels = same.levels }
keeps (BorderPreset colour) now whole = (
  ap (λ (s : Standing). s.memory) whole,
  ap (λ (s : Standing). s.colours) whole,
  ap (λ (s : Standing). s.levels) whole,
  (ap (λ (s : Standing). s.h) whole, ap (λ (s : Standing). s.v) whole),
)
keeps (SetTile colour0 colour1 row column lines) now whole =
    tile_keeps (nat_le row 17 && nat_le column 49) now row column
    (λ x y old. tile_colour colour0 colour1 lines (x % 6) (y % 12)) refl whole
keeps (XorTile colour0 colour1 row column lines) now whole =
    tile_keeps (nat_le row 17 && nat_le column 49) now row column
    (λ x y old. bit_xor (tile_colour colour0 colour1 lines (x % 6) (y % 12)) old) refl whole
keeps (ScrollPreset colour across h down v) now whole = let same = beside now whole in
    record { border = same.border; colours = same.colours; levels = same.levels }
keeps (ScrollCopy colour across h down v) now whole = let same = beside now whole in
    record { border = same.border; colours = same.colours; levels = same.levels }
keeps (Transparency levels) now whole = (
  ap (λ (s : Standing). s.memory) whole,
  ap (λ (s : Standing). s.border) whole,
  ap (λ (s : Standing). s.colours) whole,
  (ap (λ (s : Standing). s.h) whole, ap (λ (s : Standing). s.v) whole),
)
keeps (ColoursLow colours) now whole = (
  ap (λ (s : Standing). s.memory) whole,
  ap (λ (s : Standing). s.border) whole,
  ap (λ (s : Standing). s.levels) whole,
  (ap (λ (s : Standing). s.h) whole, ap (λ (s : Standing). s.v) whole),
)
keeps (ColoursHigh colours) now whole = (
  ap (λ (s : Standing). s.memory) whole,
  ap (λ (s : Standing). s.border) whole,
  ap (λ (s : Standing). s.levels) whole,
  (ap (λ (s : Standing). s.h) whole, ap (λ (s : Standing). s.v) whole),
)
