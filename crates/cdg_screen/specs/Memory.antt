-- How the memory is kept and changed.
use Rattle.std.specs.Prelude.{Option, Some, None, ◌&&◌, ◌≡◌, ℕ, ◌+◌, ◌-◌, ◌%◌, ◌<◌, ◌≤◌, if◌then◌else◌, Bool, List, length, slice_index, slice_index_or, [], All, bit_xor}
use Rattle.bit_lists.specs.Bits.{has_bit}
use Rattle.cdg_instructions.specs.Drawing.{tile_colour}
use Rattle.cdg_instructions.specs.declared.effect.DrawnTile.{DrawnTile}
use Rattle.cdg_instructions.specs.declared.effect.Scrolling.{Scrolling}
use Rattle.cdg_instructions.specs.Sizes.{colour_count, colour_values, level_values, screen_height, screen_width, tile_height, tile_width}
use Rattle.cdg_screen.specs.Standing.{Standing, covers, is_inside, rows_of, source_x, source_y}

-- The memory as rows with a moving origin: pixel (0, 0) is element `left` of row `top`, and rows and columns wrap
-- around.
pub record MemoryRows : Type 0 where
  pub rows : List (List ℕ)
  pub left : ℕ
  pub top : ℕ

-- pixel (x, y) of the memory
unfoldable pub at : MemoryRows → ℕ → ℕ → ℕ
at memory x y =
    let row = slice_index_or memory.rows ((y + memory.top) % screen_height) [] in
    slice_index row ((x + memory.left) % screen_width)

-- The memory has 216 rows of 300 colour numbers. Its origin is at whole tiles, so no tile wraps around.
pub record IsMemory (memory : MemoryRows) : Type 0 where
  pub count : length memory.rows ≡ screen_height
  pub widths : (y : ℕ) → y < screen_height → length (slice_index_or memory.rows y []) ≡ screen_width
  pub left_below : memory.left < screen_width
  pub top_below : memory.top < screen_height
  pub left_whole : memory.left % tile_width ≡ 0
  pub top_whole : memory.top % tile_height ≡ 0
  pub colours : (y x : ℕ) → slice_index (slice_index_or memory.rows y []) x < colour_count

-- Each pixel (x, y) of the memory is f x y.
abbrev pub Becomes : MemoryRows → (ℕ → ℕ → ℕ) → Type 0
Becomes memory f = (x y : ℕ) → x < screen_width → y < screen_height → at memory x y ≡ f x y

-- the colour that results from drawing one colour over another
abbrev pub drawn_over : Bool → ℕ → ℕ → ℕ
drawn_over exclusive colour old = if exclusive then bit_xor colour old else colour

-- the colour of pixel i of a line: colour 1 if its bit is set, otherwise colour 0
abbrev pub line_colour : ℕ → ℕ → ℕ → ℕ → ℕ
line_colour colour0 colour1 line i = if has_bit (5 - i) line then colour1 else colour0

-- pixel (x, y) after a tile is drawn, if the tile is in the memory
abbrev pub with_tile : DrawnTile → (ℕ → ℕ → ℕ) → ℕ → ℕ → ℕ
with_tile tile old x y =
    if covers tile.row tile.column x y
    then drawn_over tile.exclusive
    (tile_colour (slice_index tile.colours 0) (slice_index tile.colours 1) tile.lines (x % tile_width)
    (y % tile_height))
    (old x y)
    else old x y

-- pixel (x, y) after all pixels have moved; the free pixels wrap around or have this colour
unfoldable pub moved_in : Option ℕ → ℕ → ℕ → (ℕ → ℕ → ℕ) → ℕ → ℕ → ℕ
moved_in (Some colour) across down old x y =
    if is_inside screen_width (source_x across x) && is_inside screen_height (source_y down y)
    then old (source_x across x - screen_width) (source_y down y - screen_height) else colour
moved_in None across down old x y = old (source_x across x % screen_width) (source_y down y % screen_height)

-- pixel (x, y) after a scroll
abbrev pub scrolled : Scrolling → (ℕ → ℕ → ℕ) → ℕ → ℕ → ℕ
scrolled scroll old x y = moved_in scroll.incoming scroll.across scroll.down old x y

-- The fields other than the memory are in their ranges.
pub record IsInRange (border : ℕ) (colours levels : List ℕ) (h v : ℕ) : Type 0 where
  pub border_below : border < colour_count
  pub colours_count : length colours ≡ colour_count
  pub colours_below : All (λ colour. colour < colour_values) colours
  pub levels_count : length levels ≡ colour_count
  pub levels_below : All (λ level. level < level_values) levels
  pub h_most : h ≤ 5
  pub v_most : v ≤ 11

-- the fields of a screen: its memory as rows with a moving origin, and the other fields
pub record Kept : Type 0 where
  pub memory : MemoryRows
  pub border : ℕ
  pub colours : List ℕ
  pub levels : List ℕ
  pub h : ℕ
  pub v : ℕ

-- the state of a screen with these fields
abbrev pub seen : Kept → Standing
seen kept = record {
  memory = rows_of (at kept.memory);
  border = kept.border;
  colours = kept.colours;
  levels = kept.levels;
  h = kept.h;
  v = kept.v;
}
