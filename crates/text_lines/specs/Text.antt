-- The lines of a text, the words of a line, and words that are numbers or times.
use Rattle.std.specs.Prelude.{ℕ, ◌+◌, ◌*◌, Bool, not, ◌&&◌, List, length, filter, take, drop, reverse, slice_index, [], ◌∷◌, Option, Some, None, ◌==◌, ◌||◌, nat_le, nat_eq, if◌then◌else◌}
use Rattle.std.specs.List.{slice_split, before_first, after_first, list_all, starts_with}
use Rattle.std.specs.Str.Lines.{lines}
use Rattle.std.specs.Str.Parse.{digits_value}
use Rattle.std.specs.Char.{is_ascii_digit}
use Rattle.disc_time.specs.Counts.{blocks_a_minute, blocks_a_second}
pub use Rattle.disc_time.specs.Counts.{most_text_bytes}

-- whether a list is not empty
abbrev pub is_some_bytes : List ℕ → Bool
is_some_bytes s = not (length s == 0)

-- a text without the byte order mark of UTF-8
unfoldable pub without_mark : List ℕ → List ℕ
without_mark text = if starts_with nat_eq text (0xef ∷ 0xbb ∷ 0xbf ∷ []) then drop 3 text else text

-- the lines: each ends with a line feed, and one carriage return before it is dropped; the rest after the last line
-- feed is a line if it is not empty
unfoldable pub lines_in : List ℕ → List (List ℕ)
lines_in text = lines text

-- the text after its first line feed, empty if there is none
unfoldable pub after_line : List ℕ → List ℕ
after_line text = after_first (λ b. b == 10) text

-- the lines of a text
abbrev pub lines_of : List ℕ → List (List ℕ)
lines_of text = lines_in (without_mark text)

-- whether a byte is a space or a tab
abbrev pub is_blank : ℕ → Bool
is_blank b = b == 32 || b == 9

-- a line without leading blanks
unfoldable pub without_blanks : List ℕ → List ℕ
without_blanks [] = []
without_blanks (b ∷ rest) = if is_blank b then without_blanks rest else b ∷ rest

-- a line without leading and trailing blanks
unfoldable pub trimmed : List ℕ → List ℕ
trimmed line = reverse (without_blanks (reverse (without_blanks line)))

-- the words of a line, which blanks separate
unfoldable pub words_in : List ℕ → List (List ℕ)
words_in line = filter is_some_bytes (slice_split is_blank line)

-- the first word of a trimmed line
unfoldable pub first_word : List ℕ → List ℕ
first_word line = before_first is_blank line

-- the rest of a line after the first word and the blanks that follow it
unfoldable pub argument_of : List ℕ → List ℕ
argument_of line = without_blanks (drop (length (first_word line)) line)

-- the value of a word whose number of decimal digits is within these limits
unfoldable pub number_in : ℕ → ℕ → List ℕ → Option ℕ
number_in least most word =
    if nat_le least (length word) && nat_le (length word) most
    && list_all is_ascii_digit word then Some (digits_value 10 word) else None

-- the value of a word of two decimal digits
abbrev pub two_digit_number : List ℕ → Option ℕ
two_digit_number word = number_in 2 2 word

-- the block of a time with this minute, second and frame
abbrev pub time_of : Option ℕ → Option ℕ → Option ℕ → Option ℕ
time_of (Some min) (Some sec) (Some frame) = if nat_le sec 59
    && nat_le frame 74 then Some (blocks_a_minute * min + blocks_a_second * sec + frame) else None
time_of _ _ _ = None

-- the block of a time `MM:SS:FF`, each part with two digits and in its range
unfoldable pub parsed_time : List ℕ → Option ℕ
parsed_time word =
    if length word == 8 && slice_index word 2 == 58 && slice_index word 5 == 58
    then time_of (two_digit_number (take 2 word)) (two_digit_number (take 2 (drop 3 word)))
    (two_digit_number (drop 6 word)) else None
