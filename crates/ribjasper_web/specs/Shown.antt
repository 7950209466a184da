-- The outputs for a page: the counts and the screen of a player, and the numbers of the parts that a pack touches.
use Rattle.std.specs.Prelude.{◌≡◌, ◌<◌, ◌+◌, ◌*◌, ◌/◌, ◌%◌, ◌==◌, if◌then◌else◌, ℕ, slice_index, ◌-◌}
use Rattle.cdg_instructions.specs.Sizes.{screen_width}
use Rattle.cdg_screen.specs.Standing.{Standing, screen_pixel}
use Rattle.ribjasper_web.specs.declared.picture.WebShown.{WebShown}
use Rattle.rw_interleave.specs.Stream.{word_count}
use Rattle.live_player.specs.declared.live.LivePlayer.{LivePlayer}
use Rattle.ribjasper_web.specs.declared.counting.WebCounts.{WebCounts}
use Rattle.cdg_screen.specs.declared.touching.Touched.{Touched}
use Rattle.cdg_screen.specs.declared.touching.Touched.TheVariants.{Nothing, Tile, All, Border, Colours, Levels}
use Rattle.live_player.specs.declared.format.PixelFormat.{PixelFormat}
use Rattle.live_player.specs.declared.format.PixelFormat.TheVariants.{Rgba, RgbaLevels}
use Rattle.live_player.specs.declared.looking.ScreenPart.{ScreenPart}

-- the counts of a player whose form has this number; the words are those of the blocks after the lead-in
abbrev pub web_counts : ℕ → LivePlayer → WebCounts
web_counts form player = record {
  words = word_count player.words.form (player.blocks - player.lead_in);
  form = form;
  lead_in = player.lead_in;
  blocks = player.blocks;
  bad = player.bad;
}

-- a colour as a number whose bytes, the lowest first, are red, green, blue and 255
unfoldable pub opaque : ℕ → ℕ
opaque colour =
    17 * (colour / 256) + 256 * (17 * (colour / 16 % 16)) + 65536 * (17 * (colour % 16)) + 4278190080

-- pixel n of the picture, of the pixels row by row
abbrev pub opaque_pixel : Standing → ℕ → ℕ
opaque_pixel now n =
    opaque (slice_index now.colours (screen_pixel now (n % screen_width) (n / screen_width)))

-- the format of four bytes a pixel; the last is 255 or the opacity of the colour's level
abbrev pub web_format : ℕ → PixelFormat
web_format levels = if levels == 0 then Rgba else RgbaLevels

-- all pixels of the screen
abbrev pub whole_screen : ScreenPart
whole_screen = record { left = 0; top = 0; width = 300; height = 216 }

-- the number of bytes in a row of the screen, four for each pixel
abbrev pub picture_stride : ℕ
picture_stride = 1200

-- These are the border, offsets, colours and levels of a state of the screen.
pub record IsShown (now : Standing) (shown : WebShown) : Type 0 where
  pub colours : (k : ℕ) → k < 16 → slice_index shown.colours k ≡ slice_index now.colours k
  pub levels : (k : ℕ) → k < 16 → slice_index shown.levels k ≡ slice_index now.levels k
  pub border : shown.border ≡ now.border
  pub h : shown.h ≡ now.h
  pub v : shown.v ≡ now.v

-- a tile has the number of its place, in rows of fifty; the other parts have the numbers after the last tile
abbrev pub number_touched : Touched → ℕ
number_touched Nothing = 900
number_touched (Tile row column) = 50 * row + column
number_touched All = 901
number_touched Border = 902
number_touched Colours = 903
number_touched Levels = 904
