-- The contents of a canvas.
use Rattle.std.specs.Prelude.{◌≡◌, ℕ, ◌+◌, ◌-◌, ◌*◌, ◌/◌, ◌%◌, ◌<◌, ◌≤◌, List, length, map, slice_index, Option, MatchOption}
use Rattle.bit_lists.specs.Counting.{below}
use Rattle.picture_script.specs.Script.{Drawing, Picture, picture_pixel, picture_border, picture_colour}
use Rattle.cdg_instructions.specs.Sizes.{colour_count, colour_values, tile_height, tile_pixels, tile_width, window_height, window_pixels, window_width}

-- 288 by 192 pixels, a border, sixteen colours, and the number of the picture on the canvas, or none if nothing was
-- drawn
pub record Board : Type 0 where
  pub pixels : List ℕ
  pub border : ℕ
  pub colours : List ℕ
  pub at : Option ℕ

-- the pixel at a place of the window
unfoldable pub pixel_of : List ℕ → ℕ → ℕ → ℕ
pixel_of pixels x y = slice_index pixels (window_width * y + x)

-- Each pixel (x, y) of the window is f(x, y).
abbrev pub ArePixelsOf : List ℕ → (ℕ → ℕ → ℕ) → Type 0
ArePixelsOf pixels f = (x y : ℕ) → x < window_width → y < window_height → pixel_of pixels x y ≡ f x y

-- Nothing is drawn: all values are 0.
pub record IsBlank (board : Board) : Type 0 where
  pub pixels_are : (x y : ℕ) → x < window_width → y < window_height → pixel_of board.pixels x y ≡ 0
  pub border_is : board.border ≡ 0
  pub colours_are : (n : ℕ) → n < colour_count → slice_index board.colours n ≡ 0

-- Picture k of the script is on the canvas.
pub record IsPicture (script : List Drawing) (k : ℕ) (board : Board) : Type 0 where
  pub pixels_are : (x y : ℕ) → x < window_width → y < window_height
      → pixel_of board.pixels x y ≡ picture_pixel script k x y
  pub border_is : board.border ≡ picture_border script k
  pub colours_are : (n : ℕ) → n < colour_count → slice_index board.colours n ≡ picture_colour script k n

-- The canvas is empty, or has one of the pictures 0 to k of the script.
abbrev pub StandsBefore : List Drawing → ℕ → Board → Type 0
StandsBefore script k board = MatchOption board.at (IsBlank board) (λ j. (j ≤ k) × IsPicture script j board)

-- This picture is on the canvas.
pub record IsDrawn (picture : Picture) (board : Board) : Type 0 where
  pub pixels_are : (x y : ℕ) → x < window_width → y < window_height
      → pixel_of board.pixels x y ≡ picture.pixel x y
  pub border_is : board.border ≡ picture.border
  pub colours_are : (n : ℕ) → n < colour_count → slice_index board.colours n ≡ picture.colour n

-- The canvas has the border and the colours of this picture.
pub record IsSet (picture : Picture) (board : Board) : Type 0 where
  pub border_is : board.border ≡ picture.border
  pub colours_are : (n : ℕ) → n < colour_count → slice_index board.colours n ≡ picture.colour n

-- the 72 pixels of the tile at a row from 1 to 16 and a column from 1 to 48, line by line from the left
unfoldable pub tile_of : List ℕ → ℕ → ℕ → List ℕ
tile_of pixels row column =
    map (λ p. pixel_of pixels (tile_width * (column - 1) + p % tile_width)
    (tile_height * (row - 1) + p / tile_width)) (below tile_pixels)

-- Twelve pixels, one below the other from a place on, are equal in both windows.
abbrev pub IsSameColumn : List ℕ → List ℕ → ℕ → Type 0
IsSameColumn a b place = (j : ℕ) → j < tile_height
    → slice_index a (place + window_width * j) ≡ slice_index b (place + window_width * j)

-- The numbers are colour numbers.
abbrev pub AreColours : List ℕ → Type 0
AreColours colours = (i : ℕ) → slice_index colours i < colour_count

-- The list has a colour number for each pixel of the window.
pub record AreWindowPixels (pixels : List ℕ) : Type 0 where
  pub count : length pixels ≡ window_pixels
  pub colours : (i : ℕ) → slice_index pixels i < colour_count

-- The border and the colours are in their ranges.
pub record IsCanvasInRange (border : ℕ) (colours : List ℕ) : Type 0 where
  pub border_below : border < colour_count
  pub colours_count : length colours ≡ colour_count
  pub colours_below : (i : ℕ) → slice_index colours i < colour_values
