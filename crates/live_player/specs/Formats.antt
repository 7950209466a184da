-- The pixels of the screen in the formats of displays.
use Rattle.std.specs.Prelude.{◌≡◌, ◌+◌, ◌-◌, ◌*◌, ◌/◌, ◌%◌, ◌<◌, ◌≤◌, ℕ, List, [], ◌∷◌, ◌++◌, reverse, length, take, slice_index, slice_index_or}
use Rattle.cdg_screen.specs.Standing.{Standing, screen_pixel}
use Rattle.cdg_screen.specs.Texts.{colour_bytes}
use Rattle.live_player.specs.declared.looking.ScreenPart.{ScreenPart}
use Rattle.live_player.specs.declared.format.PixelFormat.{PixelFormat}
use Rattle.live_player.specs.declared.format.PixelFormat.TheVariants.{Indexed, Rgb, Rgba, Bgra, RgbaLevels, BgraLevels, Rgb565}

-- the number of bytes in a pixel
abbrev pub pixel_size : PixelFormat → ℕ
pixel_size Indexed = 1
pixel_size Rgb = 3
pixel_size Rgba = 4
pixel_size Bgra = 4
pixel_size RgbaLevels = 4
pixel_size BgraLevels = 4
pixel_size Rgb565 = 2

-- the opacity of a level, 0 to 255: level 0 is opaque and level 63 is clear; the first two of the six bits of the
-- level fill up the eight bits
abbrev pub opacity : ℕ → ℕ
opacity level = 255 - (4 * level + level / 16)

-- a colour as a number of sixteen bits: the highest five of its red, six of its green and five of its blue
abbrev pub packed_colour : ℕ → ℕ
packed_colour colour =
    2048 * (17 * (colour / 256) / 8) + 32 * (17 * (colour / 16 % 16) / 4) + 17 * (colour % 16) / 8

-- the bytes of a pixel with this colour number, colour and level
abbrev pub pixel_bytes : PixelFormat → ℕ → ℕ → ℕ → List ℕ
pixel_bytes Indexed number colour level = number ∷ []
pixel_bytes Rgb number colour level = colour_bytes colour
pixel_bytes Rgba number colour level = colour_bytes colour ++ 255 ∷ []
pixel_bytes Bgra number colour level = reverse (colour_bytes colour) ++ 255 ∷ []
pixel_bytes RgbaLevels number colour level = colour_bytes colour ++ opacity level ∷ []
pixel_bytes BgraLevels number colour level = reverse (colour_bytes colour) ++ opacity level ∷ []
pixel_bytes Rgb565 number colour level = (packed_colour colour % 256) ∷ (packed_colour colour / 256) ∷ []

-- the bytes of pixel (x, y) of the screen
unfoldable pub shown_bytes : PixelFormat → Standing → ℕ → ℕ → List ℕ
shown_bytes format now x y =
    let number = screen_pixel now x y in
    pixel_bytes format number (slice_index now.colours number) (slice_index now.levels number)

-- Each number is that of a colour.
abbrev pub AreColourNumbers : List ℕ → Type 0
AreColourNumbers pixels = (i : ℕ) → i < length pixels → slice_index pixels i < 16

-- a table has four bytes for each colour
abbrev pub HasFourBytes : List (List ℕ) → Type 0
HasFourBytes table = (p : ℕ) → p < 16 → length (slice_index_or table p []) ≡ 4

-- A table of pairs of pixels has eight bytes for each pair.
abbrev pub HasEightBytes : List (List ℕ) → Type 0
HasEightBytes pairs = (n : ℕ) → n < 256 → length (slice_index_or pairs n []) ≡ 8

-- the entries of a table begin with the bytes of the colours in a format
abbrev pub HasColours : PixelFormat → Standing → List (List ℕ) → Type 0
HasColours format now table = (p : ℕ) → p < 16 → take (pixel_size format) (slice_index_or table p [])
    ≡ pixel_bytes format p (slice_index now.colours p) (slice_index now.levels p)

-- The line begins with the bytes of the first pixels, one after the other. The table has the bytes of each colour.
abbrev pub AreFirstBytes : ℕ → ℕ → List ℕ → List (List ℕ) → List ℕ → Type 0
AreFirstBytes size count pixels table line = (i k : ℕ) → i < count → k < size
    → slice_index line (size * i + k) ≡ slice_index (slice_index_or table (slice_index pixels i) []) k

-- The table has the bytes of each pair of pixels: those of colours p and q are at place p + 16 q.
pub record ArePairs (size : ℕ) (table pairs : List (List ℕ)) : Type 0 where
  pub sizes : HasEightBytes pairs
  pub bytes : (n : ℕ) → n < 256
      → AreFirstBytes size 2 (n % 16 ∷ n / 16 ∷ []) table (slice_index_or pairs n [])

-- The line begins with the bytes of the first pairs of pixels, one after the other. The table has the bytes of each pair.
abbrev pub AreFirstPairs : ℕ → ℕ → List ℕ → List (List ℕ) → List ℕ → Type 0
AreFirstPairs size count pixels pairs line =
    let number = λ (i : ℕ). slice_index pixels (2 * i) + 16 * slice_index pixels (2 * i + 1) in
    (i k : ℕ) → i < count → k < 2 * size
    → slice_index line (2 * size * i + k) ≡ slice_index (slice_index_or pairs (number i) []) k

-- The line has the bytes of all pixels.
abbrev pub AreLineBytes : ℕ → List ℕ → List (List ℕ) → List ℕ → Type 0
AreLineBytes size pixels table line = AreFirstBytes size (length pixels) pixels table line

-- `room` bytes suffice for the rows of a part, each `stride` bytes after the row before.
abbrev pub HasPixelRoom : PixelFormat → ScreenPart → ℕ → ℕ → Type 0
HasPixelRoom format part stride room =
    (j : ℕ) → j < part.height → j * stride + pixel_size format * part.width ≤ room

-- The pixels of a part are written in a format, row by row; each row is `stride` bytes after the row before. All other
-- bytes are unchanged.
pub record ShowsPixels (format : PixelFormat) (now : Standing) (part : ScreenPart) (stride : ℕ)
    (old new : List ℕ) : Type 0 where
  pub pixels : (i j k : ℕ) → i < part.width → j < part.height → k < pixel_size format
      → slice_index new (j * stride + (pixel_size format * i + k))
      ≡ slice_index (shown_bytes format now (part.left + i) (part.top + j)) k
  pub others : (n : ℕ)
      → ((i j : ℕ) → i < pixel_size format * part.width → j < part.height → ¬ (n ≡ j * stride + i))
      → slice_index new n ≡ slice_index old n
