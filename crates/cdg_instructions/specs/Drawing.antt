-- Lists of instructions that turn one tile into another.
use Rattle.std.specs.Prelude.{◌≡◌, ℕ, ◌-◌, ◌/◌, ◌%◌, ◌≤◌, List, [], ◌∷◌, length, reverse, map, slice_index, bit_xor, if◌then◌else◌, All}
use Rattle.bit_lists.specs.Counting.{below}
use Rattle.bit_lists.specs.Bits.{has_bit}
use Rattle.cdg_instructions.specs.Instruction.{InTileRange}
use Rattle.cdg_instructions.specs.Sizes.{tile_pixels, tile_width}
use Rattle.cdg_instructions.specs.declared.instr.Instr.{Instr}
use Rattle.cdg_instructions.specs.declared.instr.Instr.TheVariants.{SetTile, XorTile}

-- The instruction draws the tile at this row and column, and its fields are in their ranges.
abbrev pub IsOfPlace : ℕ → ℕ → Instr → Type 0
IsOfPlace row column (SetTile colour0 colour1 r c lines) = (r ≡ row) × (c ≡ column)
    × InTileRange colour0 colour1 r c lines
IsOfPlace row column (XorTile colour0 colour1 r c lines) = (r ≡ row) × (c ≡ column)
    × InTileRange colour0 colour1 r c lines
IsOfPlace row column _ = ⊥

-- the colour number of pixel i in line j of a tile: `colour1` if the bit of this pixel is set, and otherwise `colour0`. The
-- leftmost pixel has bit 5.
abbrev pub tile_colour : ℕ → ℕ → List ℕ → ℕ → ℕ → ℕ
tile_colour colour0 colour1 lines i j = if has_bit (5 - i) (slice_index lines j) then colour1 else colour0

-- pixel p of the tile that an instruction draws, counted from 0, line by line from the left
abbrev pub drawn_pixel : ℕ → ℕ → List ℕ → ℕ → ℕ
drawn_pixel colour0 colour1 lines p = tile_colour colour0 colour1 lines (p % tile_width) (p / tile_width)

-- the 72 pixels of a tile after the instructions for its row and column; the last instruction is the first of the list
unfoldable pub tile_from : List ℕ → List Instr → List ℕ
tile_from old [] = old
tile_from old (SetTile colour0 colour1 row column lines ∷ before) =
    map (drawn_pixel colour0 colour1 lines) (below tile_pixels)
tile_from old (XorTile colour0 colour1 row column lines ∷ before) =
    let older = tile_from old before in
    map (λ p. bit_xor (drawn_pixel colour0 colour1 lines p) (slice_index older p)) (below tile_pixels)
tile_from old (_ ∷ before) = tile_from old before

-- the 72 pixels of a tile after the instructions for its row and column, in order
abbrev pub tile_after : List ℕ → List Instr → List ℕ
tile_after old instrs = tile_from old (reverse instrs)

-- All instructions draw the tile at this row and column, and they turn the old tile into the new one.
pub record Turns (row column : ℕ) (old new : List ℕ) (instrs : List Instr) : Type 0 where
  pub of_place : All (IsOfPlace row column) instrs
  pub result : tile_after old instrs ≡ new

-- m is the smallest number of instructions for this row and column that turn the old tile into the new one
pub record IsLeast (row column : ℕ) (old new : List ℕ) (m : ℕ) : Type 0 where
  pub enough : (instrs : List Instr) × Turns row column old new instrs × (length instrs ≡ m)
  pub needed : (instrs : List Instr) → Turns row column old new instrs → m ≤ length instrs
