-- Rows of lanes.
use Rattle.std.specs.Prelude.{◌≡◌, ◌<◌, ℕ, List, [], get_or, length, slice_index}

-- lane i of row r
abbrev pub in_rows : List (List ℕ) → ℕ → ℕ → ℕ
in_rows rows r i = slice_index (get_or rows r []) i

-- There are eight rows of sixteen lanes.
pub record AreRows (rows : List (List ℕ)) : Type 0 where
  pub count : length rows ≡ 8
  pub lanes : (r : ℕ) → r < 8 → length (get_or rows r []) ≡ 16
