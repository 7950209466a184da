-- The sizes of tiles, of the screen, of the window in it and of the table of colours. Code calls them by the
-- names of src/sizes.rt.
use Rattle.std.specs.Prelude.{ℕ}

-- the width of a tile in pixels: one symbol holds one line of a tile, with one bit for each pixel (IEC 60908)
abbrev pub tile_width : ℕ
tile_width = 6

-- the height of a tile in pixels: an instruction that draws a tile has one symbol for each line of pixels (IEC 60908)
abbrev pub tile_height : ℕ
tile_height = 12

-- the number of pixels in a tile
abbrev pub tile_pixels : ℕ
tile_pixels = 72

-- the columns of tiles of the memory (IEC 60908)
abbrev pub screen_columns : ℕ
screen_columns = 50

-- the rows of tiles of the memory (IEC 60908)
abbrev pub screen_rows : ℕ
screen_rows = 18

-- how many values the row of a tile can have in an instruction: it has five bits (IEC 60908)
abbrev pub row_values : ℕ
row_values = 32

-- how many values the column of a tile can have in an instruction: it has six bits (IEC 60908)
abbrev pub column_values : ℕ
column_values = 64

-- the last row of tiles of the memory: there are eighteen, counted from 0
abbrev pub last_row : ℕ
last_row = 17

-- the last column of tiles of the memory: there are fifty, counted from 0
abbrev pub last_column : ℕ
last_column = 49

-- the width of the memory and of the screen in pixels: fifty columns of tiles, each six pixels wide
abbrev pub screen_width : ℕ
screen_width = 300

-- the height of the memory and of the screen in pixels: eighteen rows of tiles, each twelve pixels high
abbrev pub screen_height : ℕ
screen_height = 216

-- the pixels of the memory
abbrev pub screen_pixels : ℕ
screen_pixels = 64800

-- the number of columns of tiles in the window: all but the first and the last, which the border hides
abbrev pub window_columns : ℕ
window_columns = 48

-- the number of rows of tiles in the window: all but the first and the last, which the border hides
abbrev pub window_rows : ℕ
window_rows = 16

-- the tiles of the window
abbrev pub window_tiles : ℕ
window_tiles = 768

-- the width of the window in pixels: all columns of tiles but the first and the last
abbrev pub window_width : ℕ
window_width = 288

-- the height of the window in pixels: all rows of tiles but the first and the last
abbrev pub window_height : ℕ
window_height = 192

-- the pixels of the window
abbrev pub window_pixels : ℕ
window_pixels = 55296

-- the last column of pixels in the window, counted from 0 at the left of the screen
abbrev pub window_right : ℕ
window_right = 293

-- the last row of pixels in the window, counted from 0 at the top of the screen
abbrev pub window_bottom : ℕ
window_bottom = 203

-- the number of colours in the colour table: a colour number has four bits (IEC 60908)
abbrev pub colour_count : ℕ
colour_count = 16

-- the number of values of a colour: four bits each for red, green and blue
abbrev pub colour_values : ℕ
colour_values = 4096

-- how many values the level of a colour can have: a symbol, of six bits, holds it (IEC 60908)
abbrev pub level_values : ℕ
level_values = 64
