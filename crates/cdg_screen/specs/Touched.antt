-- The parts of a screen that an instruction can change, on any screen.
use Rattle.std.specs.Prelude.{◌≡◌, ◌/◌, ◌<◌, ℕ, ◌&&◌, nat_le, if◌then◌else◌}
use Rattle.cdg_instructions.specs.declared.instr.Instr.{Instr}
use Rattle.cdg_instructions.specs.declared.instr.Instr.TheVariants.{MemoryPreset, BorderPreset, SetTile, XorTile, ScrollPreset, ScrollCopy, Transparency, ColoursLow, ColoursHigh}
use Rattle.cdg_instructions.specs.Sizes.{last_column, last_row, screen_height, screen_width, tile_height, tile_width}
use Rattle.cdg_screen.specs.Standing.{Standing, pixel_at}
use Rattle.cdg_screen.specs.declared.touching.Touched.{Touched}
use Rattle.cdg_screen.specs.declared.touching.Touched.TheVariants.{Nothing, Tile, All, Border, Colours, Levels}

-- a tile of the memory, or nothing if the tile is outside
abbrev pub tile_touched : ℕ → ℕ → Touched
tile_touched row column =
    if nat_le row last_row && nat_le column last_column then Tile row column else Nothing

-- the part of a screen that an instruction touches: a tile instruction touches its tile, whatever it draws
abbrev pub touched_by : Instr → Touched
touched_by (MemoryPreset colour repeat) = All
touched_by (BorderPreset colour) = Border
touched_by (SetTile colour0 colour1 row column lines) = tile_touched row column
touched_by (XorTile colour0 colour1 row column lines) = tile_touched row column
touched_by (ScrollPreset colour across h down v) = All
touched_by (ScrollCopy colour across h down v) = All
touched_by (Transparency levels) = Levels
touched_by (ColoursLow colours) = Colours
touched_by (ColoursHigh colours) = Colours
touched_by _ = Nothing

-- The border, the colours and the levels are equal in both states.
pub record IsSameBeside (old new : Standing) : Type 0 where
  pub border : new.border ≡ old.border
  pub colours : new.colours ≡ old.colours
  pub levels : new.levels ≡ old.levels

-- The offsets are equal in both states.
abbrev pub IsSamePlace : Standing → Standing → Type 0
IsSamePlace old new = (new.h ≡ old.h) × (new.v ≡ old.v)

-- Only the touched part differs between the two states.
abbrev pub KeepsTheRest : Touched → Standing → Standing → Type 0
KeepsTheRest Nothing old new = new ≡ old
KeepsTheRest (Tile row column) old new =
    ((x y : ℕ) → x < screen_width → y < screen_height
    → ¬ ((x / tile_width ≡ column) × (y / tile_height ≡ row))
    → pixel_at new.memory x y ≡ pixel_at old.memory x y)
    × IsSameBeside old new × IsSamePlace old new
KeepsTheRest All old new = IsSameBeside old new
KeepsTheRest Border old new =
    (new.memory ≡ old.memory) × (new.colours ≡ old.colours) × (new.levels ≡ old.levels) × IsSamePlace old new
KeepsTheRest Colours old new =
    (new.memory ≡ old.memory) × (new.border ≡ old.border) × (new.levels ≡ old.levels) × IsSamePlace old new
KeepsTheRest Levels old new =
    (new.memory ≡ old.memory) × (new.border ≡ old.border) × (new.colours ≡ old.colours) × IsSamePlace old new
