-- Picture scripts: lines that draw, and the picture at each show line.
use Rattle.std.specs.Prelude.{ℕ, zero, suc, ◌+◌, ◌-◌, ◌*◌, Bool, List, [], ◌∷◌, length, fold, filter_map, slice_index, slice_index_or, ◌/◌, ◌%◌, Option, Some, None, ◌==◌, nat_le, nat_lt, ◌&&◌, if◌then◌else◌, map}
use Rattle.bit_lists.specs.Counting.{below}
use Rattle.cdg_instructions.specs.Sizes.{tile_height, tile_pixels, tile_width}

-- a line of a script: a command and its values. The definition of `drawn` (below) names these values. Times are in blocks.
pub data Drawing : Type 0 where
  Colour : ℕ → ℕ → Drawing
  Border : ℕ → Drawing
  Fill : ℕ → Drawing
  Rect : ℕ → ℕ → ℕ → ℕ → ℕ → Drawing
  Row : ℕ → ℕ → List ℕ → Drawing
  Show : ℕ → ℕ → Drawing

-- the ready and hold time of a line in blocks, if it is a show line
abbrev pub shown_times : Drawing → Option (ℕ × ℕ)
shown_times (Show ready hold) = Some (ready, hold)
shown_times _ = None

-- the ready and hold times of all pictures in blocks, in order
unfoldable pub shows : List Drawing → List (ℕ × ℕ)
shows script = filter_map shown_times script

-- the number of pictures in a script
abbrev pub pictures : List Drawing → ℕ
pictures script = length (shows script)

-- the ready time of picture k in blocks; k counts from 0
abbrev pub ready_time : List Drawing → ℕ → ℕ
ready_time script k = (slice_index_or (shows script) k (0, 0)).0

-- the hold time of picture k in blocks; k counts from 0
abbrev pub hold_time : List Drawing → ℕ → ℕ
hold_time script k = (slice_index_or (shows script) k (0, 0)).1

-- the lines before the show line of picture k
unfoldable pub lines_before : List Drawing → ℕ → List Drawing
lines_before [] k = []
lines_before (Show ready hold ∷ rest) zero = []
lines_before (Show ready hold ∷ rest) (suc k) = Show ready hold ∷ lines_before rest k
lines_before (line ∷ rest) k = line ∷ lines_before rest k

-- whether x is one of the `count` numbers from `first` on
abbrev pub is_within : ℕ → ℕ → ℕ → Bool
is_within first count x = nat_le first x && nat_lt x (first + count)

-- a picture: the pixels of the window of 288 by 192, the border and the colours of the table
pub record Picture : Type 0 where
  pub pixel : ℕ → ℕ → ℕ
  pub border : ℕ
  pub colour : ℕ → ℕ

-- the picture before the first line of a script: all pixels, the border and all colours are 0
abbrev pub blank_picture : Picture
blank_picture = record { pixel = λ x y. 0; border = 0; colour = λ n. 0 }

-- the picture `old` after one more line of the script
abbrev pub drawn : Picture → Drawing → Picture
drawn old (Colour number value) = record old { colour = λ n. if number == n then value else old.colour n }
drawn old (Border colour) = record old { border = colour }
drawn old (Fill colour) = record old { pixel = λ x y. colour }
drawn old (Rect left top width height colour) = record old {
  pixel = λ x y. if is_within left width x && is_within top height y then colour else old.pixel x y;
}
drawn old (Row left top colours) = record old {
  pixel = λ x y. if is_within left (length colours) x && y == top then slice_index colours (x - left)
      else old.pixel x y;
}
drawn old (Show ready hold) = old

-- the picture that some lines of a script draw
abbrev pub drawn_by : List Drawing → Picture
drawn_by lines = fold drawn blank_picture lines

-- the colour number that the lines before the show line of picture k give to pixel (x, y)
unfoldable pub picture_pixel : List Drawing → ℕ → ℕ → ℕ → ℕ
picture_pixel script k x y = (drawn_by (lines_before script k)).pixel x y

-- the colour number of the border of picture k
unfoldable pub picture_border : List Drawing → ℕ → ℕ
picture_border script k = (drawn_by (lines_before script k)).border

-- the value (twelve bits) of colour `number` in the colour table of picture k
unfoldable pub picture_colour : List Drawing → ℕ → ℕ → ℕ
picture_colour script k number = (drawn_by (lines_before script k)).colour number

-- the 72 pixels of the tile at a row from 1 to 16 and a column from 1 to 48, line by line from the left
unfoldable pub picture_tile : List Drawing → ℕ → ℕ → ℕ → List ℕ
picture_tile script k row column =
    map (λ p. picture_pixel script k (tile_width * (column - 1) + p % tile_width)
    (tile_height * (row - 1) + p / tile_width)) (below tile_pixels)

-- colours 0 to 7 of picture k
unfoldable pub low_colours : List Drawing → ℕ → List ℕ
low_colours script k = map (picture_colour script k) (below 8)

-- colours 8 to 15 of picture k
unfoldable pub high_colours : List Drawing → ℕ → List ℕ
high_colours script k = map (λ n. picture_colour script k (8 + n)) (below 8)
