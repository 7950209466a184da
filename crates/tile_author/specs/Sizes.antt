-- The sizes of bases and plans. src/basis.rt has the same constants.
use Rattle.std.specs.Prelude.{ℕ}

-- the maximum number of instructions for a tile: at most this many numbers of four bits are independent
abbrev pub most_steps : ℕ
most_steps = 4

-- the number of values of four bits
abbrev pub number_count : ℕ
number_count = 16
