-- The nine lines of a trial.
use Rattle.std.specs.Prelude.{ℕ, List, ◌++◌, codes, decimal}
use Rattle.bit_lists.specs.Digits.{line_feed}

-- the line of a name and a number
unfoldable pub trial_count_line : List ℕ → ℕ → List ℕ
trial_count_line name n = name ++ codes " " ++ decimal n ++ line_feed

-- the lines on the script and the stream
unfoldable pub input_lines : ℕ → ℕ → ℕ → ℕ → ℕ → List ℕ
input_lines seed count blocks packs changes =
    trial_count_line (codes "seed") seed ++ (trial_count_line (codes "pictures") count
    ++ (trial_count_line (codes "blocks") blocks
    ++ (trial_count_line (codes "packs") packs ++ trial_count_line (codes "changes") changes)))

-- the lines on the results
unfoldable pub output_lines : ℕ → ℕ → ℕ → ℕ → List ℕ
output_lines one two bad equal =
    trial_count_line (codes "one") one
    ++ (trial_count_line (codes "two") two
    ++ (trial_count_line (codes "bad") bad ++ trial_count_line (codes "equal") equal))
