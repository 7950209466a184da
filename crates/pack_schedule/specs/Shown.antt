-- When the screen shows a picture of a script, and the ranges in accepted scripts.
use Rattle.std.specs.Prelude.{◌≡◌, ℕ, ◌+◌, ◌<◌, ◌≤◌, List, slice_index}
use Rattle.cdg_instructions.specs.Sizes.{colour_count, colour_values, tile_height, tile_width, window_height, window_width}
use Rattle.cdg_screen.specs.Standing.{Standing, screen_pixel}
use Rattle.picture_script.specs.Script.{Drawing, pictures, ready_time, hold_time, picture_pixel, picture_border, picture_colour}

-- The screen shows picture k of the script: it has the border, the colours and the pixels of this picture. The pixels are
-- those in the window (288 by 192 pixels, inside the border).
pub record ShowsPicture (script : List Drawing) (k : ℕ) (now : Standing) : Type 0 where
  pub pixels : (x y : ℕ) → x < window_width → y < window_height
      → screen_pixel now (x + tile_width) (y + tile_height) ≡ picture_pixel script k x y
  pub border : now.border ≡ picture_border script k
  pub colours : (n : ℕ) → n < colour_count → slice_index now.colours n ≡ picture_colour script k n

-- Each picture is held from its ready time to its hold time, and the next one is ready after that.
pub record AreTimesInOrder (script : List Drawing) : Type 0 where
  pub held : (k : ℕ) → k < pictures script → ready_time script k ≤ hold_time script k
  pub later : (k : ℕ) → k + 1 < pictures script → hold_time script k < ready_time script (k + 1)

-- The border of each picture is a colour number, and its colours have twelve bits.
pub record AreColoursInRange (script : List Drawing) : Type 0 where
  pub border : (k : ℕ) → picture_border script k < colour_count
  pub colour : (k n : ℕ) → picture_colour script k n < colour_values
