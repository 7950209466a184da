-- The lines of a picture script, and the first one that is refused.
use Rattle.std.specs.Prelude.{◌≡◌, ◌<◌, ℕ, zero, suc, ◌+◌, ◌-◌, ◌*◌, Bool, true, not, ◌&&◌, ◌||◌, List, [], ◌∷◌, ◌++◌, length, map, slice_index, Option, Some, None, codes, Result, Ok, Err, ◌==◌, nat_le, nat_lt, if◌then◌else◌}
use Rattle.std.specs.List.{list_all}
use Rattle.std.specs.Str.{bytes_eq}
use Rattle.std.specs.Char.{is_ascii_hexdigit, digit_value}
use Rattle.text_lines.specs.Text.{lines_of, without_blanks, words_in, is_some_bytes, number_in, parsed_time}
use Rattle.text_lines.specs.Reading.{read_on}
use Rattle.picture_script.specs.Script.{Drawing, Colour, Border, Fill, Rect, Row, Show, pictures, hold_time}
use Rattle.picture_script.specs.Sizes.{most_pictures}
use Rattle.picture_script.specs.declared.reasons.ScriptWhy.{ScriptWhy}
use Rattle.picture_script.specs.declared.reasons.ScriptWhy.TheVariants.{UnknownCommand, BadArgument, OutOfRange, TimeOrder, TooMany}
use Rattle.cdg_instructions.specs.Sizes.{colour_count, window_height, window_width}

-- a number: one to three decimal digits
abbrev pub small_number : List ℕ → Option ℕ
small_number word = number_in 1 3 word

-- a number in front of a list of numbers, if both exist
abbrev pub number_before : Option ℕ → Option (List ℕ) → Option (List ℕ)
number_before (Some number) (Some numbers) = Some (number ∷ numbers)
number_before _ _ = None

-- the numbers in some words, if there are `count` words and each is a number
unfoldable pub numbers_in : ℕ → List (List ℕ) → Option (List ℕ)
numbers_in zero [] = Some []
numbers_in zero (word ∷ words) = None
numbers_in (suc count) [] = None
numbers_in (suc count) (word ∷ words) = number_before (small_number word) (numbers_in count words)

-- a colour: four hexadecimal digits of either case, the first of them 0
unfoldable pub colour_in : List ℕ → Option ℕ
colour_in word =
    if length word == 4 && slice_index word 0 == 48 && is_ascii_hexdigit (slice_index word 1)
    && is_ascii_hexdigit (slice_index word 2) && is_ascii_hexdigit (slice_index word 3)
    then Some (256 * digit_value (slice_index word 1) + 16 * digit_value (slice_index word 2)
    + digit_value (slice_index word 3)) else None

-- pixels: one or more hexadecimal digits
unfoldable pub pixels_in : List ℕ → Option (List ℕ)
pixels_in word =
    if is_some_bytes word && list_all is_ascii_hexdigit word then Some (map digit_value word) else None

-- The values in the words after each command, if the words are valid, before their ranges are checked; None otherwise.

-- a line of a number and a value
abbrev pub colour_of : Option ℕ → Option ℕ → Option Drawing
colour_of (Some number) (Some value) = Some (Colour number value)
colour_of _ _ = None

-- colour: a number, and a colour
unfoldable pub colour_line : List (List ℕ) → Option Drawing
colour_line (number ∷ value ∷ []) = colour_of (small_number number) (colour_in value)
colour_line _ = None

-- a line of one number, for the border
abbrev pub border_of : Option (List ℕ) → Option Drawing
border_of (Some (colour ∷ [])) = Some (Border colour)
border_of _ = None

-- border: one number
unfoldable pub border_line : List (List ℕ) → Option Drawing
border_line words = border_of (numbers_in 1 words)

-- a line of one number, for the picture
abbrev pub fill_of : Option (List ℕ) → Option Drawing
fill_of (Some (colour ∷ [])) = Some (Fill colour)
fill_of _ = None

-- fill: one number
unfoldable pub fill_line : List (List ℕ) → Option Drawing
fill_line words = fill_of (numbers_in 1 words)

-- a line of five numbers
abbrev pub rect_of : Option (List ℕ) → Option Drawing
rect_of (Some (x ∷ y ∷ width ∷ height ∷ colour ∷ [])) = Some (Rect x y width height colour)
rect_of _ = None

-- rect: five numbers, x and y, width and height, and a colour's
unfoldable pub rect_line : List (List ℕ) → Option Drawing
rect_line words = rect_of (numbers_in 5 words)

-- a line of two numbers and pixels
abbrev pub row_of : Option ℕ → Option ℕ → Option (List ℕ) → Option Drawing
row_of (Some x) (Some y) (Some pixels) = Some (Row x y pixels)
row_of _ _ _ = None

-- row: two numbers, x and y, and pixels
unfoldable pub row_line : List (List ℕ) → Option Drawing
row_line (x ∷ y ∷ pixels ∷ []) = row_of (small_number x) (small_number y) (pixels_in pixels)
row_line _ = None

-- a line of two times
abbrev pub show_of : Option ℕ → Option ℕ → Option Drawing
show_of (Some ready) (Some hold) = Some (Show ready hold)
show_of _ _ = None

-- show: two times, when the picture is ready and until when it is held
unfoldable pub show_line : List (List ℕ) → Option Drawing
show_line (ready ∷ hold ∷ []) = show_of (parsed_time ready) (parsed_time hold)
show_line _ = None

-- whether the numbers of a line are in their ranges, and its pixels in the window
abbrev pub is_in_range : Drawing → Bool
is_in_range (Colour number value) = nat_lt number colour_count
is_in_range (Border colour) = nat_lt colour colour_count
is_in_range (Fill colour) = nat_lt colour colour_count
is_in_range (Rect x y width height colour) =
    nat_le 1 width && nat_le 1 height && nat_le (x + width) window_width
    && nat_le (y + height) window_height && nat_lt colour colour_count
is_in_range (Row x y pixels) = nat_le (x + length pixels) window_width && nat_lt y window_height
is_in_range (Show ready hold) = true

-- whether a ready time is after the hold time of the previous picture
abbrev pub is_after_hold : List Drawing → ℕ → Bool
is_after_hold before ready = pictures before == 0 || nat_lt (hold_time before (pictures before - 1)) ready

-- the reason to refuse a line with valid words after the previous lines
abbrev pub later_reason : List Drawing → Drawing → Option ScriptWhy
later_reason before (Show ready hold) =
    if nat_lt hold ready || not (is_after_hold before ready) then Some TimeOrder
    else (if nat_le most_pictures (pictures before) then Some TooMany else None)
later_reason before line = if is_in_range line then None else Some OutOfRange

-- a line, unless there is a reason to refuse it
abbrev pub unless_refused : Drawing → Option ScriptWhy → Result Drawing ScriptWhy
unless_refused line None = Ok line
unless_refused line (Some why) = Err why

-- a line after the previous lines: it is refused first for invalid words, and then for other reasons
unfoldable pub checked_line : List Drawing → Option Drawing → Result Drawing ScriptWhy
checked_line before None = Err BadArgument
checked_line before (Some line) = unless_refused line (later_reason before line)

-- The text has one word, which is a colour number.
abbrev pub IsColourNumber : List ℕ → ℕ → Type 0
IsColourNumber text colour = (numbers_in 1 (words_in text) ≡ Some (colour ∷ [])) × (colour < colour_count)

-- After any lines, a line with these words is refused for this reason.
abbrev pub IsWrongAs : (List (List ℕ) → Option Drawing) → List ℕ → ScriptWhy → Type 0
IsWrongAs line text why = (before : List Drawing) → checked_line before (line (words_in text)) ≡ Err why

-- the command of a line after the previous lines, or the first reason to refuse it
unfoldable pub checked_command : List Drawing → List ℕ → List (List ℕ) → Result Drawing ScriptWhy
checked_command before command words =
    if bytes_eq command (codes "colour") then checked_line before (colour_line words)
    else (if bytes_eq command (codes "border") then checked_line before (border_line words)
    else (if bytes_eq command (codes "fill") then checked_line before (fill_line words)
    else (if bytes_eq command (codes "rect") then checked_line before (rect_line words)
    else (if bytes_eq command (codes "row") then checked_line before (row_line words)
    else (if bytes_eq command (codes "show") then checked_line before (show_line words)
    else Err UnknownCommand)))))

-- the result of checking the words of a line after the previous lines; the first word is the command
unfoldable pub checked_words : List Drawing → List (List ℕ) → Result Drawing ScriptWhy
checked_words before [] = Err UnknownCommand
checked_words before (command ∷ words) = checked_command before command words

-- whether a line is ignored: it is empty, or a remark
abbrev pub is_passed_over : List ℕ → Bool
is_passed_over line = length (without_blanks line) == 0 || slice_index (without_blanks line) 0 == 35

-- the previous lines and one more line, if it is accepted
abbrev pub grown : List Drawing → Result Drawing ScriptWhy → Result (List Drawing) ScriptWhy
grown before (Ok line) = Ok (before ++ line ∷ [])
grown before (Err why) = Err why

-- the lines with one more line of the text, or the first reason to refuse it
abbrev pub script_step : List Drawing → List ℕ → Result (List Drawing) ScriptWhy
script_step before line =
    if is_passed_over line then Ok before else grown before (checked_words before (words_in line))

-- the lines of a script from a line number on, after the previous lines; or the first refused line with its first
-- reason
unfoldable pub checked_lines : ℕ → List Drawing → List (List ℕ) → Result (List Drawing) (ℕ × ScriptWhy)
checked_lines number before lines = read_on script_step (λ script. Ok script) number before lines

-- the script of a text, or its first refused line with the first reason
unfoldable pub read_script : List ℕ → Result (List Drawing) (ℕ × ScriptWhy)
read_script text = checked_lines 1 [] (lines_of text)
