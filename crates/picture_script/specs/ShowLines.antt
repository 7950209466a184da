-- The show lines of a text.
use Rattle.std.specs.Prelude.{ℕ, ◌+◌, Bool, not, ◌&&◌, List, [], ◌∷◌, slice_index_or, codes, if◌then◌else◌}
use Rattle.std.specs.Str.{bytes_eq}
use Rattle.text_lines.specs.Text.{lines_of, words_in}
use Rattle.picture_script.specs.ScriptGrammar.{is_passed_over}

-- whether a line is a show line: its first word is `show`
unfoldable pub is_show_line : List ℕ → Bool
is_show_line line = not (is_passed_over line) && bytes_eq (slice_index_or (words_in line) 0 []) (codes "show")

-- the numbers of the show lines, if the lines are counted from `number`
unfoldable pub show_lines_from : ℕ → List (List ℕ) → List ℕ
show_lines_from number [] = []
show_lines_from number (line ∷ rest) =
    if is_show_line line then number ∷ show_lines_from (number + 1) rest
    else show_lines_from (number + 1) rest

-- the numbers of the show lines of a text, counted from 1
abbrev pub show_lines : List ℕ → List ℕ
show_lines text = show_lines_from 1 (lines_of text)
