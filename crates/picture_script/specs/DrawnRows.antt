-- The rows of tiles on which lines draw. A row is twelve pixels high, and row 0 is at the top.
use Rattle.std.specs.Prelude.{◌≡◌, ℕ, ◌+◌, ◌-◌, ◌*◌, ◌/◌, ◌<◌, ◌≤◌, ⊤, Bool, true, false, List, length, take, slice_index_or}
use Rattle.picture_script.specs.Script.{Drawing, drawn_by, lines_before, picture_pixel, pictures, Border, Fill, Rect, Row}
use Rattle.cdg_instructions.specs.Sizes.{tile_height}

-- The lines between two places draw only on marked rows.
abbrev pub LeavesRows : List Drawing → ℕ → ℕ → List Bool → Type 0
LeavesRows script from to rows = (r x y : ℕ) → slice_index_or rows r true ≡ false → y / tile_height ≡ r
    → (drawn_by (take from script)).pixel x y ≡ (drawn_by (take to script)).pixel x y

-- A row without a mark is equal in picture k and in the previous picture.
abbrev pub KeepsRows : List Drawing → ℕ → List Bool → Type 0
KeepsRows script k rows = (r : ℕ) → slice_index_or rows r true ≡ false → (0 < k)
    × ((x y : ℕ) → y / tile_height ≡ r → picture_pixel script (k - 1) x y ≡ picture_pixel script k x y)

-- A line draws on a row of tiles. A rectangle draws on each row between its edges.
abbrev pub DrawsOn : Drawing → ℕ → Type 0
DrawsOn (Fill colour) r = ⊤
DrawsOn (Rect left top width height colour) r = (top < tile_height * (r + 1))
    × (tile_height * r < top + height)
DrawsOn (Row left top colours) r = top / tile_height ≡ r
DrawsOn _ r = ⊥

-- On each marked row, a line between two places draws.
abbrev pub MarksRows : List Drawing → ℕ → ℕ → List Bool → Type 0
MarksRows script from to rows = (r : ℕ) → slice_index_or rows r false ≡ true
    → (i : ℕ) × (from ≤ i) × (i < to) × DrawsOn (slice_index_or script i (Border 0)) r

-- If both pictures exist, a line between the show lines of the previous picture and of picture k draws on each marked row.
abbrev pub AreDrawnRows : List Drawing → ℕ → List Bool → Type 0
AreDrawnRows script k rows = 0 < k → k < pictures script
    → MarksRows script (length (lines_before script (k - 1))) (length (lines_before script k)) rows
