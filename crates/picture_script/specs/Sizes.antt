-- The sizes of a script. src/script.rt has the same constants.
use Rattle.std.specs.Prelude.{ℕ}

-- the maximum number of pictures in a script: more than three for each second of the longest program
abbrev pub most_pictures : ℕ
most_pictures = 20000

-- the number of values of one to three decimal digits
abbrev pub small_number_values : ℕ
small_number_values = 1000
