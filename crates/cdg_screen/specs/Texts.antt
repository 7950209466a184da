-- The output of the picture and of the state.
use Rattle.std.specs.Prelude.{ℕ, ◌*◌, ◌/◌, ◌%◌, List, [], ◌∷◌, ◌++◌, flat_map, slice_index, codes}
use Rattle.bit_lists.specs.Counting.{below}
use Rattle.bit_lists.specs.Digits.{digits, hex_digits, line_feed}
use Rattle.cdg_instructions.specs.Sizes.{colour_count, screen_height, screen_width}
use Rattle.cdg_screen.specs.Standing.{Standing, screen_pixel}

-- the header of a pixmap: its kind, its size and the greatest value of red, green and blue
abbrev pub pixmap_header : List ℕ
pixmap_header = codes "P6" ++ line_feed ++ codes "300 216" ++ line_feed ++ codes "255" ++ line_feed

-- red, green and blue of a colour of twelve bits, each from 0 to 255
abbrev pub colour_bytes : ℕ → List ℕ
colour_bytes colour = (17 * (colour / 256)) ∷ (17 * (colour / 16 % 16)) ∷ (17 * (colour % 16)) ∷ []

-- the bytes of row y of a pixmap
unfoldable pub pixmap_row : Standing → ℕ → List ℕ
pixmap_row now y =
    flat_map (λ x. colour_bytes (slice_index now.colours (screen_pixel now x y))) (below screen_width)

-- the bytes of the pixmap of a screen: a header, and red, green and blue of each pixel, row by row
unfoldable pub pixmap : Standing → List ℕ
pixmap now = pixmap_header ++ flat_map (pixmap_row now) (below screen_height)

-- the line of text with colour k and level k
unfoldable pub state_row : Standing → ℕ → List ℕ
state_row now k =
    codes "colour " ++ digits 2 k ++ codes " " ++ hex_digits 4 (slice_index now.colours k) ++ codes " level "
    ++ digits 2 (slice_index now.levels k) ++ line_feed

-- the lines of text with the border and the offsets
abbrev pub state_head : Standing → List ℕ
state_head now =
    codes "border " ++ digits 2 now.border ++ line_feed
    ++ codes "offset " ++ digits 1 now.h ++ codes " " ++ digits 2 now.v ++ line_feed

-- the state of a screen as text: the border, the offsets, and the sixteen colours and levels
unfoldable pub state_text : Standing → List ℕ
state_text now = state_head now ++ flat_map (state_row now) (below colour_count)
