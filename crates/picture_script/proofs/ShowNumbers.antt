-- The number of `show` lines is the number of pictures.
use Rattle.std.proofs.Common.{◌≡◌, ℕ, ◌+◌, Bool, true, false, List, [], ◌∷◌, ◌++◌, length, get_or, refl, ap, sym, subst, ◌∙◌, arith, length-append}
use Rattle.std.specs.Prelude.{Option, Some, None, Result, Ok, Err, if◌then◌else◌, not, ◌&&◌, codes, filter_map}
use Rattle.std.specs.Str.{bytes_eq}
use Rattle.std.proofs.lemmas.Slice.Eq.{bytes_eq-Decides}
use Rattle.std.proofs.lemmas.List.Elements.{filter_map-append}
use Rattle.text_lines.specs.Text.{words_in, lines_of}
use Rattle.text_lines.proofs.ReadOn.{read_on-refused}
use Rattle.picture_script.specs.Script.{Drawing, Colour, Border, Fill, Rect, Row, Show, shows, shown_times, pictures}
use Rattle.picture_script.specs.ScriptGrammar.{read_script, script_step, grown, checked_lines, checked_words, checked_command, checked_line, unless_refused, later_reason, is_passed_over, colour_line, colour_of, border_line, border_of, fill_line, fill_of, rect_line, rect_of, row_line, row_of, show_line, show_of, numbers_in, small_number, colour_in, pixels_in}
use Rattle.text_lines.specs.Text.{parsed_time}
use Rattle.picture_script.specs.ShowLines.{is_show_line, show_lines, show_lines_from}
use Rattle.picture_script.specs.declared.reasons.ScriptWhy.{ScriptWhy}
use Rattle.picture_script.specs.declared.reasons.ScriptWhy.TheVariants.{UnknownCommand}
use Rattle.picture_script.proofs.Refusals.{command_is, one_taken, reading_ends, step_read, step_passed}

-- the number of pictures that a line adds
abbrev adds : Drawing → ℕ
adds (Show ready hold) = 1
adds _ = 0

shown_one : Bool → ℕ
shown_one true = 1
shown_one false = 0

adds_one : (line : Drawing) → length (filter_map shown_times (line ∷ [])) ≡ adds line
adds_one (Colour number value) = refl
adds_one (Border colour) = refl
adds_one (Fill colour) = refl
adds_one (Rect x y width height colour) = refl
adds_one (Row x y pixels) = refl
adds_one (Show ready hold) = refl

pictures-push : (before : List Drawing) (line : Drawing)
    → pictures (before ++ line ∷ []) ≡ pictures before + adds line
unfolding shows
pictures-push before line =
    ap length (filter_map-append shown_times before (line ∷ []))
    ∙ length-append (filter_map shown_times before) (filter_map shown_times (line ∷ []))
    ∙ ap (λ n. length (filter_map shown_times before) + n) (adds_one line)

-- ---- the meaning of the words of each command

colour_adds : (number value : Option ℕ) (line : Drawing) → colour_of number value ≡ Some line → adds line ≡ 0
colour_adds (Some n) (Some v) line h = let is : line ≡ Colour n v = cc in ap adds is
colour_adds (Some n) None line h = absurd (cc)
colour_adds None (Some v) line h = absurd (cc)
colour_adds None None line h = absurd (cc)

colour_said : (words : List (List ℕ)) (line : Drawing) → colour_line words ≡ Some line → adds line ≡ 0
unfolding colour_line
colour_said [] line h = absurd (cc)
colour_said (a ∷ []) line h = absurd (cc)
colour_said (a ∷ b ∷ []) line h = colour_adds (small_number a) (colour_in b) line h
colour_said (a ∷ b ∷ c ∷ rest) line h = absurd (cc)

border_adds : (numbers : Option (List ℕ)) (line : Drawing) → border_of numbers ≡ Some line → adds line ≡ 0
border_adds None line h = absurd (cc)
border_adds (Some []) line h = absurd (cc)
border_adds (Some (a ∷ [])) line h = let is : line ≡ Border a = cc in ap adds is
border_adds (Some (a ∷ b ∷ rest)) line h = absurd (cc)

border_said : (words : List (List ℕ)) (line : Drawing) → border_line words ≡ Some line → adds line ≡ 0
unfolding border_line
border_said words line h = border_adds (numbers_in 1 words) line h

fill_adds : (numbers : Option (List ℕ)) (line : Drawing) → fill_of numbers ≡ Some line → adds line ≡ 0
fill_adds None line h = absurd (cc)
fill_adds (Some []) line h = absurd (cc)
fill_adds (Some (a ∷ [])) line h = let is : line ≡ Fill a = cc in ap adds is
fill_adds (Some (a ∷ b ∷ rest)) line h = absurd (cc)

fill_said : (words : List (List ℕ)) (line : Drawing) → fill_line words ≡ Some line → adds line ≡ 0
unfolding fill_line
fill_said words line h = fill_adds (numbers_in 1 words) line h

rect_adds : (numbers : Option (List ℕ)) (line : Drawing) → rect_of numbers ≡ Some line → adds line ≡ 0
rect_adds None line h = absurd (cc)
rect_adds (Some []) line h = absurd (cc)
rect_adds (Some (a ∷ [])) line h = absurd (cc)
rect_adds (Some (a ∷ b ∷ [])) line h = absurd (cc)
rect_adds (Some (a ∷ b ∷ c ∷ [])) line h = absurd (cc)
rect_adds (Some (a ∷ b ∷ c ∷ d ∷ [])) line h = absurd (cc)
rect_adds (Some (a ∷ b ∷ c ∷ d ∷ e ∷ [])) line h = let is : line ≡ Rect a b c d e = cc in ap adds is
rect_adds (Some (a ∷ b ∷ c ∷ d ∷ e ∷ f ∷ rest)) line h = absurd (cc)

rect_said : (words : List (List ℕ)) (line : Drawing) → rect_line words ≡ Some line → adds line ≡ 0
unfolding rect_line
rect_said words line h = rect_adds (numbers_in 5 words) line h

row_adds : (x y : Option ℕ) (pixels : Option (List ℕ)) (line : Drawing) → row_of x y pixels ≡ Some line
    → adds line ≡ 0
row_adds (Some x) (Some y) (Some pixels) line h = let is : line ≡ Row x y pixels = cc in ap adds is
row_adds (Some x) (Some y) None line h = absurd (cc)
row_adds (Some x) None pixels line h = absurd (cc)
row_adds None y pixels line h = absurd (cc)

row_said : (words : List (List ℕ)) (line : Drawing) → row_line words ≡ Some line → adds line ≡ 0
unfolding row_line
row_said [] line h = absurd (cc)
row_said (a ∷ []) line h = absurd (cc)
row_said (a ∷ b ∷ []) line h = absurd (cc)
row_said (a ∷ b ∷ c ∷ []) line h = row_adds (small_number a) (small_number b) (pixels_in c) line h
row_said (a ∷ b ∷ c ∷ d ∷ rest) line h = absurd (cc)

show_adds : (ready hold : Option ℕ) (line : Drawing) → show_of ready hold ≡ Some line → adds line ≡ 1
show_adds (Some ready) (Some hold) line h = let is : line ≡ Show ready hold = cc in ap adds is
show_adds (Some ready) None line h = absurd (cc)
show_adds None (Some hold) line h = absurd (cc)
show_adds None None line h = absurd (cc)

show_said : (words : List (List ℕ)) (line : Drawing) → show_line words ≡ Some line → adds line ≡ 1
unfolding show_line
show_said [] line h = absurd (cc)
show_said (a ∷ []) line h = absurd (cc)
show_said (a ∷ b ∷ []) line h = show_adds (parsed_time a) (parsed_time b) line h
show_said (a ∷ b ∷ c ∷ rest) line h = absurd (cc)

-- ---- a line that is accepted

unless_is : (said line : Drawing) (why : Option ScriptWhy) → unless_refused said why ≡ Ok line
    → Some said ≡ Some line
unless_is said line None h = cc
unless_is said line (Some why) h = absurd (cc)

checked_is : (before : List Drawing) (said : Option Drawing) (line : Drawing)
    → checked_line before said ≡ Ok line
    → said ≡ Some line
unfolding checked_line
checked_is before None line h = absurd (cc)
checked_is before (Some said) line h = unless_is said line (later_reason before said) h

unknown : (line : Drawing) → Err UnknownCommand ≡ Ok line → adds line ≡ 0
unknown line h = absurd (cc)

by_command : (before : List Drawing) (words : List (List ℕ)) (colour border fill rect row : Bool)
    (line : Drawing)
    → (if colour then checked_line before (colour_line words)
    else (if border then checked_line before (border_line words)
    else (if fill then checked_line before (fill_line words)
    else (if rect then checked_line before (rect_line words)
    else (if row then checked_line before (row_line words)
    else Err UnknownCommand))))) ≡ Ok line → adds line ≡ 0
by_command before words true b f r w line h =
    colour_said words line (checked_is before (colour_line words) line h)
by_command before words false true f r w line h =
    border_said words line (checked_is before (border_line words) line h)
by_command before words false false true r w line h =
    fill_said words line (checked_is before (fill_line words) line h)
by_command before words false false false true w line h =
    rect_said words line (checked_is before (rect_line words) line h)
by_command before words false false false false true line h =
    row_said words line (checked_is before (row_line words) line h)
by_command before words false false false false false line h = unknown line h

other_command : (before : List Drawing) (command : List ℕ) (words : List (List ℕ)) (line : Drawing)
    → bytes_eq command (codes "show") ≡ false → checked_command before command words ≡ Ok line
    → adds line ≡ 0
other_command before command words line other h =
    let colour = bytes_eq command (codes "colour") in
    let border = bytes_eq command (codes "border") in
    let fill = bytes_eq command (codes "fill") in
    let rect = bytes_eq command (codes "rect") in
    let row = bytes_eq command (codes "row") in
    by_command before words colour border fill rect row line (sym
    (command_is before command words colour border fill rect row false refl refl refl refl refl other)
    ∙ h)

show_command : (before : List Drawing) (command : List ℕ) (words : List (List ℕ)) (line : Drawing)
    → command ≡ codes "show" → checked_command before command words ≡ Ok line
    → adds line ≡ 1
show_command before command words line is h =
    let shown : checked_command before (codes "show") words ≡ Ok line =
    subst (λ c. checked_command before c words ≡ Ok line) is h in
    show_said words line (checked_is before (show_line words) line (sym
    (command_is before (codes "show") words false false false false false true refl refl refl refl refl refl)
    ∙ shown))

is_show : (command : List ℕ) → bytes_eq command (codes "show") ≡ true → command ≡ codes "show"
is_show command h = (bytes_eq-Decides command (codes "show")).0 h

-- ---- a line adds a picture if and only if it is a `show` line

grown_is : (before next : List Drawing) (line : Drawing) → grown before (Ok line) ≡ Ok next
    → next ≡ before ++ line ∷ []
grown_is before next line h = cc

by_show : (before next : List Drawing) (command : List ℕ) (words : List (List ℕ))
    (found : Result Drawing ScriptWhy) (b : Bool) → checked_command before command words ≡ found
    → bytes_eq command (codes "show") ≡ b → grown before found ≡ Ok next
    → pictures next ≡ pictures before + shown_one b
unfolding shown_one
by_show before next command words (Err why) b is test h = absurd (cc)
by_show before next command words (Ok line) true is test h =
    ap pictures (grown_is before next line h)
    ∙ pictures-push before line
    ∙ ap (λ n. pictures before + n) (show_command before command words line (is_show command test) is)
by_show before next command words (Ok line) false is test h =
    ap pictures (grown_is before next line h)
    ∙ pictures-push before line
    ∙ ap (λ n. pictures before + n) (other_command before command words line test is)

by_words : (before next : List Drawing) (words : List (List ℕ))
    → grown before (checked_words before words) ≡ Ok next
    → pictures next ≡ pictures before + shown_one (bytes_eq (get_or words 0 []) (codes "show"))
unfolding checked_words
by_words before next [] h = absurd (cc)
by_words before next (command ∷ words) h =
    by_show before next command words (checked_command before command words) (bytes_eq command (codes "show"))
    refl refl h

by_line : (before next : List Drawing) (line : List ℕ) (passed : Bool) → is_passed_over line ≡ passed
    → script_step before line ≡ Ok next
    → pictures next ≡ pictures before + shown_one (is_show_line line)
unfolding is_show_line shown_one
by_line before next line true is h =
    let same : Ok before ≡ Ok next = sym (step_passed before line is) ∙ h in
    let next_is : next ≡ before = cc in
    let shown : is_show_line line ≡ false =
    ap (λ b. not b && bytes_eq (get_or (words_in line) 0 []) (codes "show")) is in
    omega (arith, ap pictures next_is, ap shown_one shown)
by_line before next line false is h =
    let shown : is_show_line line ≡ bytes_eq (get_or (words_in line) 0 []) (codes "show") =
    ap (λ b. not b && bytes_eq (get_or (words_in line) 0 []) (codes "show")) is in
    by_words before next (words_in line) (sym (step_read before line is) ∙ h)
    ∙ ap (λ b. pictures before + shown_one b) (sym shown)

one_more : (b : Bool) (number : ℕ) (rest : List ℕ)
    → length (if b then number ∷ rest else rest) ≡ shown_one b + length rest
unfolding shown_one
one_more true number rest = omega arith
one_more false number rest = omega arith

-- a refused text is not read
never : (why : ℕ × ScriptWhy) (script : List Drawing) (n m : ℕ) → Err why ≡ Ok script → n ≡ m
never why script n m h = cc

line_refused : (number : ℕ) (before : List Drawing) (line : List ℕ) (rest : List (List ℕ)) (why : ScriptWhy)
    (script : List Drawing) (n m : ℕ) → script_step before line ≡ Err why
    → checked_lines number before (line ∷ rest) ≡ Ok script
    → n ≡ m
unfolding checked_lines
line_refused number before line rest why script n m is h =
    never (number, why) script n m
    (sym (read_on-refused script_step (λ script. Ok script) number before why line rest is) ∙ h)

-- these lines add as many pictures as they have `show` lines
abbrev Counts : List (List ℕ) → Type 0
Counts lines = (number from : ℕ) (before script : List Drawing)
    → checked_lines number before lines ≡ Ok script
    → pictures before + length (show_lines_from from lines) ≡ pictures script

line_counts : (line : List ℕ) (rest : List (List ℕ)) → Counts rest
    → (number from : ℕ) (before script : List Drawing) (found : Result (List Drawing) ScriptWhy)
    → script_step before line ≡ found
    → checked_lines number before (line ∷ rest) ≡ Ok script
    → pictures before + length (show_lines_from from (line ∷ rest)) ≡ pictures script
unfolding show_lines_from
line_counts line rest counts number from before script (Ok next) is h =
    let more =
    counts (number + 1) (from + 1) next script (sym (one_taken number before next line rest is) ∙ h) in
    let added = by_line before next line (is_passed_over line) refl is in
    let size = one_more (is_show_line line) from (show_lines_from (from + 1) rest) in
    omega (arith, more, added, size)
line_counts line rest counts number from before script (Err why) is h =
    line_refused number before line rest why script _ _ is h

pub lines_count : (lines : List (List ℕ)) → Counts lines
unfolding show_lines_from
lines_count [] number from before script h =
    let same : Ok before ≡ Ok script = sym (reading_ends number before [] refl) ∙ h in
    let is : before ≡ script = cc in
    omega (arith, ap pictures is)
lines_count (line ∷ rest) number from before script h =
    line_counts line rest (lines_count rest) number from before script (script_step before line) refl h

pub lines_are_pictures : (text : List ℕ) (script : List Drawing) → read_script text ≡ Ok script
    → length (show_lines text) ≡ pictures script
unfolding read_script shows
lines_are_pictures text script h = omega (arith, lines_count (lines_of text) 1 1 [] script h)

-- ---- the first `show` line

pub passed_on : (number : ℕ) (lines rest : List (List ℕ)) (line : List ℕ) → lines ≡ line ∷ rest
    → is_show_line line ≡ false
    → show_lines_from number lines ≡ show_lines_from (number + 1) rest
unfolding show_lines_from
passed_on number lines rest line is other =
    ap (show_lines_from number) is
    ∙ ap (λ b. if b then number ∷ show_lines_from (number + 1) rest else show_lines_from (number + 1) rest)
    other

pub found_at : (number : ℕ) (lines rest : List (List ℕ)) (line : List ℕ) → lines ≡ line ∷ rest
    → is_show_line line ≡ true
    → show_lines_from number lines ≡ number ∷ show_lines_from (number + 1) rest
unfolding show_lines_from
found_at number lines rest line is found =
    ap (show_lines_from number) is
    ∙ ap (λ b. if b then number ∷ show_lines_from (number + 1) rest else show_lines_from (number + 1) rest)
    found

pub none_left : (number : ℕ) (lines : List (List ℕ)) → lines ≡ [] → show_lines_from number lines ≡ []
unfolding show_lines_from
none_left number lines is = ap (show_lines_from number) is

-- ---- the first words of a line decide

pub passed_shows_none : (line : List ℕ) → is_passed_over line ≡ true → is_show_line line ≡ false
unfolding is_show_line
passed_shows_none line passed =
    ap (λ b. not b && bytes_eq (get_or (words_in line) 0 []) (codes "show")) passed

pub first_word_shows : (line : List ℕ) (words : List (List ℕ)) → is_passed_over line ≡ false
    → words_in line ≡ words
    → is_show_line line ≡ bytes_eq (get_or words 0 []) (codes "show")
unfolding is_show_line
first_word_shows line words heard is =
    ap (λ b. not b && bytes_eq (get_or (words_in line) 0 []) (codes "show")) heard
    ∙ ap (λ (ws : List (List ℕ)). bytes_eq (get_or ws 0 []) (codes "show")) is
