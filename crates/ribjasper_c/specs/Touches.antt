-- The numbers of the parts that a pack touches.
use Rattle.std.specs.Prelude.{ℕ, ◌+◌, ◌*◌}
use Rattle.cdg_screen.specs.declared.touching.Touched.{Touched}
use Rattle.cdg_screen.specs.declared.touching.Touched.TheVariants.{Nothing, Tile, All, Border, Colours, Levels}

-- a tile has the number of its place, in rows of fifty; the other parts have the numbers after the last tile
abbrev pub touched_number : Touched → ℕ
touched_number Nothing = 900
touched_number (Tile row column) = 50 * row + column
touched_number All = 901
touched_number Border = 902
touched_number Colours = 903
touched_number Levels = 904
