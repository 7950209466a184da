-- The graphics instructions and their codewords.
use Rattle.std.specs.Prelude.{◌≡◌, ◌≢◌, ℕ, ◌+◌, ◌*◌, ◌/◌, ◌%◌, ◌<◌, ◌≤◌, List, [], ◌∷◌, ◌++◌, length, map, flat_map, take, drop, replicate, slice_index, All, Contains, ◌==◌, if◌then◌else◌, min, ⊤}
use Rattle.bit_lists.specs.Counting.{below}
use Rattle.rw_code.specs.Codeword.{IsCodeword}
use Rattle.cdg_instructions.specs.declared.instr.Instr.{Instr}
use Rattle.cdg_instructions.specs.declared.instr.Instr.TheVariants.{Idle, Foreign, Unknown, MemoryPreset, BorderPreset, SetTile, XorTile, ScrollPreset, ScrollCopy, Transparency, ColoursLow, ColoursHigh}
use Rattle.cdg_instructions.specs.Sizes.{colour_values, tile_height, tile_pixels}

-- the content of a word: symbols 4 to 19
abbrev pub content_of : List ℕ → List ℕ
content_of word = take 16 (drop 4 word)

-- content symbol i of a word
abbrev pub content : List ℕ → ℕ → ℕ
content word i = slice_index word (4 + i)

-- the numbers of the graphics instructions, in symbol 1 of a word
abbrev pub known_codes : List ℕ
known_codes = 1 ∷ 2 ∷ 6 ∷ 20 ∷ 24 ∷ 28 ∷ 30 ∷ 31 ∷ 38 ∷ []

-- The word has the graphics instruction with this number.
pub record IsGraphics (word : List ℕ) (code : ℕ) : Type 0 where
  pub mode_is : slice_index word 0 ≡ 9
  pub code_is : slice_index word 1 ≡ code

-- the move in bits 5 and 4 of a symbol; a move of 3 is read as 0, no move
abbrev pub move : ℕ → ℕ
move symbol = if symbol / 16 == 3 then 0 else symbol / 16

-- the offset across in the low bits of a symbol: more than five pixels count as five
abbrev pub offset_across : ℕ → ℕ
offset_across symbol = min (symbol % 8) 5

-- the offset down in the low bits of a symbol: more than eleven pixels count as eleven
abbrev pub offset_down : ℕ → ℕ
offset_down symbol = min (symbol % 16) 11

-- colour k of a table: four bits each of red, green and blue in two symbols
abbrev pub table_colour : List ℕ → ℕ → ℕ
table_colour word k = 64 * content word (2 * k) + content word (2 * k + 1)

-- The tile instruction in the word has these fields.
pub record IsTile (word : List ℕ) (colour0 colour1 row column : ℕ) (lines : List ℕ) : Type 0 where
  pub colour0_is : colour0 ≡ content word 0 % 16
  pub colour1_is : colour1 ≡ content word 1 % 16
  pub row_is : row ≡ content word 2 % 32
  pub column_is : column ≡ content word 3
  pub lines_are : lines ≡ drop 4 (content_of word)

-- The scroll instruction in the word has these fields.
pub record IsScroll (word : List ℕ) (colour across h down v : ℕ) : Type 0 where
  pub colour_is : colour ≡ content word 0 % 16
  pub across_is : across ≡ move (content word 1)
  pub h_is : h ≡ offset_across (content word 1)
  pub down_is : down ≡ move (content word 2)
  pub v_is : v ≡ offset_down (content word 2)

-- The word means the instruction.
abbrev pub Means : List ℕ → Instr → Type 0
Means word Idle = slice_index word 0 ≡ 0
Means word Foreign = (slice_index word 0 ≢ 0) × (slice_index word 0 ≢ 9)
Means word Unknown = (slice_index word 0 ≡ 9) × ¬ Contains known_codes (slice_index word 1)
Means word (MemoryPreset colour repeat) = IsGraphics word 1 × (colour ≡ content word 0 % 16)
    × (repeat ≡ content word 1 % 16)
Means word (BorderPreset colour) = IsGraphics word 2 × (colour ≡ content word 0 % 16)
Means word (SetTile colour0 colour1 row column lines) = IsGraphics word 6
    × IsTile word colour0 colour1 row column lines
Means word (ScrollPreset colour across h down v) = IsGraphics word 20 × IsScroll word colour across h down v
Means word (ScrollCopy colour across h down v) = IsGraphics word 24 × IsScroll word colour across h down v
Means word (Transparency levels) = IsGraphics word 28 × (levels ≡ content_of word)
Means word (ColoursLow colours) = IsGraphics word 30 × (colours ≡ map (table_colour word) (below 8))
Means word (ColoursHigh colours) = IsGraphics word 31 × (colours ≡ map (table_colour word) (below 8))
Means word (XorTile colour0 colour1 row column lines) = IsGraphics word 38
    × IsTile word colour0 colour1 row column lines

-- the two symbols of a colour of twelve bits
abbrev pub colour_symbols : ℕ → List ℕ
colour_symbols colour = colour / 64 ∷ colour % 64 ∷ []

-- the content of an instruction that draws a tile
abbrev pub tile_symbols : ℕ → ℕ → ℕ → ℕ → List ℕ → List ℕ
tile_symbols colour0 colour1 row column lines = colour0 ∷ colour1 ∷ row ∷ column ∷ lines

-- the content of a scroll: a colour, a symbol with the move and the offset across, a symbol with those down, and zeros
abbrev pub scroll_symbols : ℕ → ℕ → ℕ → ℕ → ℕ → List ℕ
scroll_symbols colour across h down v = colour ∷ (16 * across + h) ∷ (16 * down + v) ∷ replicate 13 0

-- symbols 0, 1 and 4 to 19 of the codeword that is written for an instruction. For `Foreign` and `Unknown`, no codeword is
-- written.
abbrev pub written_symbols : Instr → List ℕ
written_symbols Idle = replicate 18 0
written_symbols (MemoryPreset colour repeat) = 9 ∷ 1 ∷ colour ∷ repeat ∷ replicate 14 0
written_symbols (BorderPreset colour) = 9 ∷ 2 ∷ colour ∷ replicate 15 0
written_symbols (SetTile colour0 colour1 row column lines) =
    9 ∷ 6 ∷ tile_symbols colour0 colour1 row column lines
written_symbols (ScrollPreset colour across h down v) = 9 ∷ 20 ∷ scroll_symbols colour across h down v
written_symbols (ScrollCopy colour across h down v) = 9 ∷ 24 ∷ scroll_symbols colour across h down v
written_symbols (Transparency levels) = 9 ∷ 28 ∷ levels
written_symbols (ColoursLow colours) = 9 ∷ 30 ∷ flat_map colour_symbols colours
written_symbols (ColoursHigh colours) = 9 ∷ 31 ∷ flat_map colour_symbols colours
written_symbols (XorTile colour0 colour1 row column lines) =
    9 ∷ 38 ∷ tile_symbols colour0 colour1 row column lines
written_symbols _ = []

-- symbols 0, 1 and 4 to 19 of a word: all but the parity symbols
abbrev pub message_of : List ℕ → List ℕ
message_of word = take 2 word ++ content_of word

-- The word is the codeword that is written for the instruction.
pub record IsWritten (instr : Instr) (word : List ℕ) : Type 0 where
  pub codeword : IsCodeword word
  pub message : message_of word ≡ written_symbols instr

-- The fields of an instruction that draws a tile are in their ranges.
pub record InTileRange (colour0 colour1 row column : ℕ) (lines : List ℕ) : Type 0 where
  pub colour0_below : colour0 < 16
  pub colour1_below : colour1 < 16
  pub row_below : row < 32
  pub column_below : column < 64
  pub lines_count : length lines ≡ tile_height
  pub lines_below : All (λ line. line < 64) lines

-- The fields of a scroll are in their ranges.
pub record InScrollRange (colour across h down v : ℕ) : Type 0 where
  pub colour_below : colour < 16
  pub across_most : across ≤ 2
  pub h_most : h ≤ 5
  pub down_most : down ≤ 2
  pub v_most : v ≤ 11

-- The fields of the instruction are in their ranges.
abbrev pub InRange : Instr → Type 0
InRange (MemoryPreset colour repeat) = (colour < 16) × (repeat < 16)
InRange (BorderPreset colour) = colour < 16
InRange (SetTile colour0 colour1 row column lines) = InTileRange colour0 colour1 row column lines
InRange (ScrollPreset colour across h down v) = InScrollRange colour across h down v
InRange (ScrollCopy colour across h down v) = InScrollRange colour across h down v
InRange (Transparency levels) = (length levels ≡ 16) × All (λ level. level < 64) levels
InRange (ColoursLow colours) = (length colours ≡ 8) × All (λ colour. colour < colour_values) colours
InRange (ColoursHigh colours) = (length colours ≡ 8) × All (λ colour. colour < colour_values) colours
InRange (XorTile colour0 colour1 row column lines) = InTileRange colour0 colour1 row column lines
InRange _ = ⊤

-- The instruction can be written: it is neither `Foreign` nor `Unknown`.
abbrev pub IsKnown : Instr → Type 0
IsKnown instr = (instr ≢ Foreign) × (instr ≢ Unknown)

-- The list has the 72 colour numbers of a tile.
pub record IsTilePixels (pixels : List ℕ) : Type 0 where
  pub count : length pixels ≡ tile_pixels
  pub below : All (λ pixel. pixel < 16) pixels
