-- The state of a screen after a list of instructions.
use Rattle.std.specs.Prelude.{◌≡◌, ℕ, ◌+◌, ◌-◌, ◌*◌, ◌/◌, ◌%◌, Bool, List, [], ◌∷◌, map, reverse, slice_index, slice_index_or, ◌==◌, nat_le, nat_lt, ◌&&◌, if◌then◌else◌, bit_xor}
use Rattle.bit_lists.specs.Counting.{below}
use Rattle.cdg_instructions.specs.Drawing.{tile_colour}
use Rattle.cdg_instructions.specs.declared.instr.Instr.{Instr}
use Rattle.cdg_instructions.specs.declared.instr.Instr.TheVariants.{MemoryPreset, BorderPreset, SetTile, XorTile, ScrollPreset, ScrollCopy, Transparency, ColoursLow, ColoursHigh}
use Rattle.cdg_instructions.specs.Sizes.{colour_count, last_column, last_row, screen_height, screen_width, tile_height, tile_width, window_bottom, window_right}

-- the state of a screen: the memory as 216 rows of 300 pixels from the top left, the border, sixteen colours, sixteen
-- levels of transparency, and the offsets h (across) and v (down) in pixels
pub record Standing : Type 0 where
  pub memory : List (List ℕ)
  pub border : ℕ
  pub colours : List ℕ
  pub levels : List ℕ
  pub h : ℕ
  pub v : ℕ

-- element x of row y: the colour number of pixel (x, y), or 0 outside the rows
unfoldable pub pixel_at : List (List ℕ) → ℕ → ℕ → ℕ
pixel_at rows x y = slice_index (slice_index_or rows y []) x

-- the rows of the memory, if the function `pixel` returns the colour number of each pixel
unfoldable pub rows_of : (ℕ → ℕ → ℕ) → List (List ℕ)
rows_of pixel = map (λ y. map (λ x. pixel x y) (below screen_width)) (below screen_height)

-- the rows of the memory, from its pixels in one list, row by row from the left
abbrev pub rows_in : List ℕ → List (List ℕ)
rows_in pixels = rows_of (λ x y. slice_index pixels (screen_width * y + x))

-- the list of the sixteen values of a function for 0 to 15
unfoldable pub sixteen : (ℕ → ℕ) → List ℕ
sixteen number = map number (below colour_count)

-- the state of a screen at the start: all is 0
abbrev pub blank : Standing
blank = record {
  memory = rows_of (λ x y. 0);
  border = 0;
  colours = sixteen (λ k. 0);
  levels = sixteen (λ k. 0);
  h = 0;
  v = 0;
}

-- whether the tile at this row and column is in the memory and contains pixel (x, y)
abbrev pub covers : ℕ → ℕ → ℕ → ℕ → Bool
covers row column x y =
    nat_le row last_row && nat_le column last_column && x / tile_width == column && y / tile_height == row

-- the place from which a scroll moves a pixel to x, plus `size` to avoid negative numbers. Direction 1 moves right or down
-- by one tile, and direction 2 left or up.
abbrev pub source : ℕ → ℕ → ℕ → ℕ → ℕ
source size step direction x =
    if direction == 1 then x + size - step else (if direction == 2 then x + size + step else x + size)

-- the column from which a scroll moves a pixel to column x, plus the width of the memory
abbrev pub source_x : ℕ → ℕ → ℕ
source_x across x = source screen_width tile_width across x

-- the row from which a scroll moves a pixel to row y, plus the height of the memory
abbrev pub source_y : ℕ → ℕ → ℕ
source_y down y = source screen_height tile_height down y

-- whether a scroll moves a pixel from a place inside the memory. `from` is the result of `source`: this place plus `size`.
abbrev pub is_inside : ℕ → ℕ → Bool
is_inside size from = nat_le size from && nat_lt from (2 * size)

-- In the next five definitions, the list `before` has the last instruction first, and `start` is the state before all
-- instructions.

-- the colour number of pixel (x, y) of the memory after some instructions. The list contains the last instruction first.
abbrev pub memory_from : (ℕ → ℕ → ℕ) → List Instr → ℕ → ℕ → ℕ
memory_from start [] x y = start x y
memory_from start (MemoryPreset colour repeat ∷ before) x y = colour
memory_from start (SetTile colour0 colour1 row column lines ∷ before) x y =
    let old = memory_from start before x y in
    if covers row column x y
    then tile_colour colour0 colour1 lines (x % tile_width) (y % tile_height) else old
memory_from start (XorTile colour0 colour1 row column lines ∷ before) x y =
    let old = memory_from start before x y in
    if covers row column x y
    then bit_xor (tile_colour colour0 colour1 lines (x % tile_width) (y % tile_height)) old else old
memory_from start (ScrollPreset colour across h down v ∷ before) x y =
    let old = memory_from start before (source_x across x - screen_width) (source_y down y - screen_height) in
    if is_inside screen_width (source_x across x) && is_inside screen_height (source_y down y)
    then old else colour
memory_from start (ScrollCopy colour across h down v ∷ before) x y =
    memory_from start before (source_x across x % screen_width) (source_y down y % screen_height)
memory_from start (_ ∷ before) x y = memory_from start before x y

-- the border after some instructions: the last colour to which they set it, or else `start`. The list contains the last
-- instruction first.
abbrev pub border_from : ℕ → List Instr → ℕ
border_from start [] = start
border_from start (BorderPreset colour ∷ before) = colour
border_from start (_ ∷ before) = border_from start before

-- colour k of the table after some instructions: the last value to which they set it, or else `start k`. The list contains
-- the last instruction first.
abbrev pub colour_from : (ℕ → ℕ) → List Instr → ℕ → ℕ
colour_from start [] k = start k
colour_from start (ColoursLow colours ∷ before) k =
    let old = colour_from start before k in if nat_lt k 8 then slice_index colours k else old
colour_from start (ColoursHigh colours ∷ before) k =
    let old = colour_from start before k in if nat_lt k 8 then old else slice_index colours (k - 8)
colour_from start (_ ∷ before) k = colour_from start before k

-- level k of transparency after some instructions: the last value to which they set it, or else `start k`. The list
-- contains the last instruction first.
abbrev pub level_from : (ℕ → ℕ) → List Instr → ℕ → ℕ
level_from start [] k = start k
level_from start (Transparency levels ∷ before) k = slice_index levels k
level_from start (_ ∷ before) k = level_from start before k

-- the offsets across and down after some instructions. The list contains the last instruction first.
abbrev pub offsets_from : ℕ × ℕ → List Instr → ℕ × ℕ
offsets_from start [] = start
offsets_from start (ScrollPreset colour across h down v ∷ before) = (h, v)
offsets_from start (ScrollCopy colour across h down v ∷ before) = (h, v)
offsets_from start (_ ∷ before) = offsets_from start before

-- the state of a screen after the instructions, if its state before them is `start`
abbrev pub standing_after : Standing → List Instr → Standing
standing_after start instrs =
    let before = reverse instrs in
    let offsets = offsets_from (start.h, start.v) before in
    record {
      memory = rows_of (memory_from (pixel_at start.memory) before);
      border = border_from start.border before;
      colours = sixteen (colour_from (slice_index start.colours) before);
      levels = sixteen (level_from (slice_index start.levels) before);
      h = offsets.0;
      v = offsets.1;
    }

-- The state has all its rows and numbers: an empty list of instructions leaves it as it is.
abbrev pub IsWholeStanding : Standing → Type 0
IsWholeStanding now = standing_after now [] ≡ now

-- the colour number of pixel (x, y) of the screen: inside the window, that of pixel (x + h, y + v) of the memory;
-- elsewhere, that of the border
abbrev pub screen_pixel : Standing → ℕ → ℕ → ℕ
screen_pixel now x y =
    if nat_le tile_width x && nat_le x window_right && nat_le tile_height y && nat_le y window_bottom
    then pixel_at now.memory (x + now.h) (y + now.v) else now.border
