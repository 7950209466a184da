-- The equal tiles of two windows.
use Rattle.std.specs.Prelude.{◌≡◌, ℕ, ◌+◌, ◌-◌, ◌<◌, ◌≤◌, ◌↔◌, Bool, true, false, List, [], slice_index_or}
use Rattle.cdg_instructions.specs.Sizes.{window_columns, window_rows}
use Rattle.picture_script.specs.Board.{tile_of}
use Rattle.pack_schedule.specs.declared.change.tiles.TileMarks.{TileMarks}

-- All tiles of a row, from 1 to 16, are equal.
abbrev pub SameRow : List ℕ → List ℕ → ℕ → Type 0
SameRow old new row = (column : ℕ) → 1 ≤ column → column ≤ window_columns
    → tile_of old row column ≡ tile_of new row column

-- All tiles are equal.
abbrev pub SameTiles : List ℕ → List ℕ → Type 0
SameTiles old new = (row : ℕ) → 1 ≤ row → row ≤ window_rows → SameRow old new row

-- Each mark of a row, from the left, says whether the tile is equal.
abbrev pub MarksColumns : List ℕ → List ℕ → ℕ → List Bool → Type 0
MarksColumns old new row columns = (column : ℕ) → 1 ≤ column → column ≤ window_columns
    → slice_index_or columns (column - 1) false ≡ true
    ↔ tile_of old row column ≡ tile_of new row column

-- If the row is marked as a whole, all its tiles are equal. Otherwise, each tile has a mark.
abbrev pub MarksRow : List ℕ → List ℕ → ℕ → Bool → List Bool → Type 0
MarksRow old new row whole columns = (whole ≡ true → SameRow old new row)
    × (whole ≡ false → MarksColumns old new row columns)

-- Each row has its marks.
abbrev pub MarksTiles : List ℕ → List ℕ → TileMarks → Type 0
MarksTiles old new marks = (r : ℕ) → r < window_rows
    → MarksRow old new (r + 1) (slice_index_or marks.rows r false) (slice_index_or marks.columns r [])
