-- How a text is read line by line.
use Rattle.std.specs.Prelude.{ℕ, ◌+◌, List, [], ◌∷◌, Result, Ok, Err}

-- a result whose refusal contains the number of the refused line
abbrev pub at_line : {X Why : Type 0} → ℕ → Result X Why → Result X (ℕ × Why)
at_line number (Ok x) = Ok x
at_line number (Err why) = Err (number, why)

-- the state after some lines, the first of which has this number: a step computes the state after each line, or the
-- reason to refuse it; the first refusal has the number of its line, and the end of the text counts as one more line
unfoldable pub read_on : {Said Whole Why : Type 0} → (Said → List ℕ → Result Said Why)
    → (Said → Result Whole Why)
    → ℕ → Said → List (List ℕ) → Result Whole (ℕ × Why)
read_on step end_of number said [] = at_line number (end_of said)
read_on step end_of number said (line ∷ rest) =
    elim (step said line) [
      | Ok next ↦ read_on step end_of (number + 1) next rest
      | Err why ↦ Err (number, why)
    ]
