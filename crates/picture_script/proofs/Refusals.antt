-- Why a line is refused, and the draft after a line that is accepted.
use Rattle.std.proofs.Common.{◌≡◌, inl, inr, get_or, ℕ, ◌+◌, ◌<◌, ◌≤◌, Bool, true, false, List, [], ◌∷◌, ◌++◌, length, refl, ap, sym, subst, ◌∙◌, arith}
use Rattle.std.specs.Prelude.{Option, Some, None, Result, Ok, Err, if◌then◌else◌, not, ◌||◌, nat_le, nat_lt, slice_index, codes}
use Rattle.std.specs.Str.{bytes_eq}
use Rattle.std.proofs.lemmas.Bool.{cases_Bool}
use Rattle.std.proofs.lemmas.Bool.Decides.{nat_tests}
use Rattle.std.proofs.lemmas.Slice.Eq.{bytes_eq-Decides}
use Rattle.text_lines.specs.Text.{words_in, lines_in, without_mark}
use Rattle.text_lines.proofs.ReadOn.{read_on-taken, read_on-refused, read_on-end}
use Rattle.picture_script.specs.Script.{Drawing, Colour, Border, Fill, Rect, Row, Show, pictures}
use Rattle.picture_script.specs.ScriptGrammar.{read_script, script_step, grown, checked_lines, checked_words, is_passed_over, checked_command, colour_line, row_line, show_line, checked_line, is_in_range, is_after_hold, unless_refused, numbers_in, border_line, fill_line, rect_line, border_of, fill_of, rect_of}
use Rattle.picture_script.specs.Reader.{Takes, Follows}
use Rattle.picture_script.specs.declared.reader.ScriptReader.{ScriptReader}
use Rattle.picture_script.specs.declared.reasons.ScriptWhy.{ScriptWhy}
use Rattle.picture_script.specs.declared.reasons.ScriptWhy.TheVariants.{UnknownCommand, BadArgument, OutOfRange, TimeOrder, TooMany}

pub bad_line : (before : List Drawing) (said : Option Drawing) → said ≡ None
    → checked_line before said ≡ Err BadArgument
unfolding checked_line
bad_line before said h = ap (checked_line before) h

-- whether a line is not a `show` line
abbrev pub draws : Drawing → Bool
draws (Show ready hold) = false
draws _ = true

by_range : Drawing → Bool → Result Drawing ScriptWhy
by_range line b = unless_refused line (if b then None else Some OutOfRange)

checked_drawing : (before : List Drawing) (line : Drawing) → draws line ≡ true
    → checked_line before (Some line) ≡ by_range line (is_in_range line)
unfolding checked_line by_range
checked_drawing before (Colour number value) h = refl
checked_drawing before (Border colour) h = refl
checked_drawing before (Fill colour) h = refl
checked_drawing before (Rect x y width height colour) h = refl
checked_drawing before (Row x y pixels) h = refl
checked_drawing before (Show ready hold) h = absurd (cc)

pub out_of_range : (before : List Drawing) (said : Option Drawing) (line : Drawing) → said ≡ Some line
    → draws line ≡ true → is_in_range line ≡ false
    → checked_line before said ≡ Err OutOfRange
unfolding by_range
out_of_range before said line h d range =
    ap (checked_line before) h ∙ checked_drawing before line d ∙ ap (by_range line) range

pub in_range : (before : List Drawing) (said : Option Drawing) (line : Drawing) → said ≡ Some line
    → draws line ≡ true → is_in_range line ≡ true
    → checked_line before said ≡ Ok line
unfolding by_range
in_range before said line h d range =
    ap (checked_line before) h ∙ checked_drawing before line d ∙ ap (by_range line) range

by_order : ℕ → ℕ → Bool → Bool → Bool → Result Drawing ScriptWhy
by_order ready hold early after full =
    unless_refused (Show ready hold)
    (if early || not after then Some TimeOrder else (if full then Some TooMany else None))

checked_show : (before : List Drawing) (said : Option Drawing) (ready hold : ℕ) (early after full : Bool)
    → said ≡ Some (Show ready hold)
    → nat_lt hold ready ≡ early → is_after_hold before ready ≡ after → nat_le 20000 (pictures before) ≡ full
    → checked_line before said ≡ by_order ready hold early after full
unfolding checked_line by_order
checked_show before said ready hold early after full h e a f =
    ap (checked_line before) h
    ∙ ap (λ b. by_order ready hold b (is_after_hold before ready) (nat_le 20000 (pictures before))) e
    ∙ ap (λ b. by_order ready hold early b (nat_le 20000 (pictures before))) a
    ∙ ap (λ b. by_order ready hold early after b) f

pub test_true : (a b : ℕ) → a < b → nat_lt a b ≡ true
test_true a b h = grind (arith, nat_tests)

pub test_false : (a b : ℕ) → b ≤ a → nat_lt a b ≡ false
test_false a b h = grind (arith, nat_tests)

le_true : (a b : ℕ) → a ≤ b → nat_le a b ≡ true
le_true a b h = grind (arith, nat_tests)

le_false : (a b : ℕ) → b < a → nat_le a b ≡ false
le_false a b h = grind (arith, nat_tests)

pub held_short : (before : List Drawing) (said : Option Drawing) (ready hold : ℕ)
    → said ≡ Some (Show ready hold) → hold < ready
    → checked_line before said ≡ Err TimeOrder
unfolding by_order
held_short before said ready hold h lt =
    checked_show before said ready hold true (is_after_hold before ready) (nat_le 20000 (pictures before)) h
    (test_true hold ready lt) refl refl

pub ready_early : (before : List Drawing) (said : Option Drawing) (ready hold : ℕ)
    → said ≡ Some (Show ready hold) → ready ≤ hold → is_after_hold before ready ≡ false
    → checked_line before said ≡ Err TimeOrder
unfolding by_order
ready_early before said ready hold h le after =
    checked_show before said ready hold false false (nat_le 20000 (pictures before)) h
    (test_false hold ready le) after refl

pub too_many : (before : List Drawing) (said : Option Drawing) (ready hold : ℕ)
    → said ≡ Some (Show ready hold) → ready ≤ hold → is_after_hold before ready ≡ true
    → 20000 ≤ pictures before
    → checked_line before said ≡ Err TooMany
unfolding by_order
too_many before said ready hold h le after full =
    checked_show before said ready hold false true true h (test_false hold ready le) after
    (le_true 20000 (pictures before) full)

pub shown_line : (before : List Drawing) (said : Option Drawing) (ready hold : ℕ)
    → said ≡ Some (Show ready hold) → ready ≤ hold → is_after_hold before ready ≡ true
    → pictures before < 20000
    → checked_line before said ≡ Ok (Show ready hold)
unfolding by_order
shown_line before said ready hold h le after room =
    checked_show before said ready hold false true false h (test_false hold ready le) after
    (le_false 20000 (pictures before) room)

-- numbers of words, one and five
pub one_number : (words : List (List ℕ)) (numbers : List ℕ) → Some numbers ≡ numbers_in 1 words
    → length numbers ≡ 1
    → numbers_in 1 words ≡ Some (slice_index numbers 0 ∷ [])
one_number words [] h size = absurd (omega arith)
one_number words (a ∷ []) h size = sym h
one_number words (a ∷ b ∷ numbers) h size = absurd (omega arith)

pub border_taken : (words : List (List ℕ)) (colour : ℕ) → numbers_in 1 words ≡ Some (colour ∷ [])
    → border_line words ≡ Some (Border colour)
unfolding border_line
border_taken words colour h = ap border_of h

pub fill_taken : (words : List (List ℕ)) (colour : ℕ) → numbers_in 1 words ≡ Some (colour ∷ [])
    → fill_line words ≡ Some (Fill colour)
unfolding fill_line
fill_taken words colour h = ap fill_of h

pub one_border : (words : List (List ℕ)) (numbers : List ℕ) → Some numbers ≡ numbers_in 1 words
    → length numbers ≡ 1
    → border_line words ≡ Some (Border (slice_index numbers 0))
unfolding border_line
one_border words [] h size = absurd (omega arith)
one_border words (a ∷ []) h size = ap border_of (sym h)
one_border words (a ∷ b ∷ numbers) h size = absurd (omega arith)

pub one_fill : (words : List (List ℕ)) (numbers : List ℕ) → Some numbers ≡ numbers_in 1 words
    → length numbers ≡ 1
    → fill_line words ≡ Some (Fill (slice_index numbers 0))
unfolding fill_line
one_fill words [] h size = absurd (omega arith)
one_fill words (a ∷ []) h size = ap fill_of (sym h)
one_fill words (a ∷ b ∷ numbers) h size = absurd (omega arith)

pub five_rect : (words : List (List ℕ)) (numbers : List ℕ) → Some numbers ≡ numbers_in 5 words
    → length numbers ≡ 5
    → rect_line words
    ≡ Some (Rect (slice_index numbers 0) (slice_index numbers 1) (slice_index numbers 2)
    (slice_index numbers 3) (slice_index numbers 4))
unfolding rect_line
five_rect words [] h size = absurd (omega arith)
five_rect words (a ∷ []) h size = absurd (omega arith)
five_rect words (a ∷ b ∷ []) h size = absurd (omega arith)
five_rect words (a ∷ b ∷ c ∷ []) h size = absurd (omega arith)
five_rect words (a ∷ b ∷ c ∷ d ∷ []) h size = absurd (omega arith)
five_rect words (a ∷ b ∷ c ∷ d ∷ e ∷ []) h size = ap rect_of (sym h)
five_rect words (a ∷ b ∷ c ∷ d ∷ e ∷ f ∷ numbers) h size = absurd (omega arith)

pub no_border : (words : List (List ℕ)) → None ≡ numbers_in 1 words → border_line words ≡ None
unfolding border_line
no_border words h = ap border_of (sym h)

pub no_fill : (words : List (List ℕ)) → None ≡ numbers_in 1 words → fill_line words ≡ None
unfolding fill_line
no_fill words h = ap fill_of (sym h)

pub no_rect : (words : List (List ℕ)) → None ≡ numbers_in 5 words → rect_line words ≡ None
unfolding rect_line
no_rect words h = ap rect_of (sym h)

-- the command that a word names
pub command_is : (before : List Drawing) (command : List ℕ) (words : List (List ℕ))
    (colour border fill rect row show : Bool)
    → bytes_eq command (codes "colour") ≡ colour → bytes_eq command (codes "border") ≡ border
    → bytes_eq command (codes "fill") ≡ fill
    → bytes_eq command (codes "rect") ≡ rect → bytes_eq command (codes "row") ≡ row
    → bytes_eq command (codes "show") ≡ show
    → checked_command before command words ≡ (
    if colour then checked_line before (colour_line words)
    else (if border then checked_line before (border_line words)
    else (if fill then checked_line before (fill_line words)
    else (if rect then checked_line before (rect_line words)
    else (if row then checked_line before (row_line words)
    else (if show then checked_line before (show_line words)
    else Err UnknownCommand))))))
unfolding checked_command
command_is before command words colour border fill rect row show c b f r w s =
    subst (λ colour. checked_command before command words ≡ (
    if colour then checked_line before (colour_line words)
    else (if border then checked_line before (border_line words)
    else (if fill then checked_line before (fill_line words)
    else (if rect then checked_line before (rect_line words)
    else (if row then checked_line before (row_line words)
    else (if show then checked_line before (show_line words)
    else Err UnknownCommand))))))) c (rw (← b, ← f, ← r, ← w, ← s) refl)

-- the meaning of the words of a line, by their command
pub said_colour : (before : List Drawing) (all words : List (List ℕ)) → all ≡ codes "colour" ∷ words
    → checked_words before all ≡ checked_line before (colour_line words)
unfolding checked_words checked_command
said_colour before all words h = ap (checked_words before) h

pub said_border : (before : List Drawing) (all words : List (List ℕ)) → all ≡ codes "border" ∷ words
    → checked_words before all ≡ checked_line before (border_line words)
unfolding checked_words checked_command
said_border before all words h = ap (checked_words before) h

pub said_fill : (before : List Drawing) (all words : List (List ℕ)) → all ≡ codes "fill" ∷ words
    → checked_words before all ≡ checked_line before (fill_line words)
unfolding checked_words checked_command
said_fill before all words h = ap (checked_words before) h

pub said_rect : (before : List Drawing) (all words : List (List ℕ)) → all ≡ codes "rect" ∷ words
    → checked_words before all ≡ checked_line before (rect_line words)
unfolding checked_words checked_command
said_rect before all words h = ap (checked_words before) h

pub said_row : (before : List Drawing) (all words : List (List ℕ)) → all ≡ codes "row" ∷ words
    → checked_words before all ≡ checked_line before (row_line words)
unfolding checked_words checked_command
said_row before all words h = ap (checked_words before) h

pub said_show : (before : List Drawing) (all words : List (List ℕ)) → all ≡ codes "show" ∷ words
    → checked_words before all ≡ checked_line before (show_line words)
unfolding checked_words checked_command
said_show before all words h = ap (checked_words before) h

other_word : (command text : List ℕ) → (command ≡ text → ⊥) → bytes_eq command text ≡ false
other_word command text other = elim (cases_Bool (bytes_eq command text))
    [ inl same ↦ absurd (other ((bytes_eq-Decides command text).0 same)) | inr differ ↦ differ ]

-- words without a command
pub said_nothing : (before : List Drawing) (all : List (List ℕ))
    → (get_or all 0 [] ≡ codes "colour" → ⊥) → (get_or all 0 [] ≡ codes "border" → ⊥)
    → (get_or all 0 [] ≡ codes "fill" → ⊥)
    → (get_or all 0 [] ≡ codes "rect" → ⊥) → (get_or all 0 [] ≡ codes "row" → ⊥)
    → (get_or all 0 [] ≡ codes "show" → ⊥)
    → checked_words before all ≡ Err UnknownCommand
unfolding checked_words
said_nothing before [] c b f r w s = refl
said_nothing before (command ∷ words) c b f r w s =
    command_is before command words false false false false false false
    (other_word command (codes "colour") c) (other_word command (codes "border") b)
    (other_word command (codes "fill") f) (other_word command (codes "rect") r)
    (other_word command (codes "row") w) (other_word command (codes "show") s)

-- The lines one after another.

pub one_taken : (number : ℕ) (old new : List Drawing) (line : List ℕ) (rest : List (List ℕ))
    → script_step old line ≡ Ok new
    → checked_lines number old (line ∷ rest) ≡ checked_lines (number + 1) new rest
unfolding checked_lines
one_taken number old new line rest h =
    read_on-taken script_step (λ script. Ok script) number old new line rest h

pub step_passed : (before : List Drawing) (line : List ℕ) → is_passed_over line ≡ true
    → script_step before line ≡ Ok before
step_passed before line h =
    ap (λ b. if b then Ok before else grown before (checked_words before (words_in line))) h

pub step_read : (before : List Drawing) (line : List ℕ) → is_passed_over line ≡ false
    → script_step before line ≡ grown before (checked_words before (words_in line))
step_read before line h =
    ap (λ b. if b then Ok before else grown before (checked_words before (words_in line))) h

pub one_refused : (number : ℕ) (before : List Drawing) (line : List ℕ) (rest : List (List ℕ))
    (why : ScriptWhy)
    → script_step before line ≡ Err why
    → checked_lines number before (line ∷ rest) ≡ Err (number, why)
unfolding checked_lines
one_refused number before line rest why h =
    read_on-refused script_step (λ script. Ok script) number before why line rest h

-- A line is read.

pub line_read : (before : List Drawing) (line : List ℕ) (reader : ScriptReader)
    (result : Result (Unit {0}) ScriptWhy) → is_passed_over line ≡ false
    → Takes before (checked_words before (words_in line)) reader result
    → Follows before line reader result
line_read before line reader (Ok u) heard takes =
    (before ++ takes.0 ∷ [], step_read before line heard ∙ ap (grown before) takes.1, takes.2)
line_read before line reader (Err why) heard takes =
    step_read before line heard ∙ ap (grown before) takes

-- The whole text.

pub reading_begins : (text : List ℕ) → checked_lines 1 [] (lines_in (without_mark text)) ≡ read_script text
unfolding read_script
reading_begins text = refl

pub reading_ends : (number : ℕ) (before : List Drawing) (lines : List (List ℕ)) → lines ≡ []
    → checked_lines number before lines ≡ Ok before
unfolding checked_lines
reading_ends number before lines h =
    ap (checked_lines number before) h ∙ read_on-end script_step (λ script. Ok script) number before
