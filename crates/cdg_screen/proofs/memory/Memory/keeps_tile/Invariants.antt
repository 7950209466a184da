use Rattle.std.specs.Prelude.{◌%◌, ◌&&◌, nat_lt, if◌then◌else◌, slice_index}
use Rattle.cdg_instructions.specs.Drawing.{tile_colour}
use Rattle.cdg_screen.specs.Standing.{covers}
use Rattle.cdg_screen.specs.Memory.{at, Becomes, drawn_over}
use Rattle.cdg_screen.proofs.memory.Memory.keeps_tile.Given as goal

abbrev pub invariant-loop-j : goal.invariant-loop-j
invariant-loop-j l =
    Becomes l.self (λ x y. if covers l.tile.row l.tile.column x y && nat_lt (y % 12) l.j
    then drawn_over l.tile.exclusive
    (tile_colour (slice_index l.tile.colours 0) (slice_index l.tile.colours 1) l.tile.lines (x % 6) (y % 12))
    (at l.self x y)
    else at l.self x y)
