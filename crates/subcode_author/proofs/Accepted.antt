-- The lines of an accepted script.
use Rattle.std.proofs.Common.{◌≡◌, ℕ, suc, zero, ◌+◌, ◌-◌, ◌*◌, ◌<◌, ◌≤◌, Bool, true, false, List, [], ◌∷◌, ◌++◌, length, map, get_or, refl, sym, subst, ◌∙◌, arith, Result, Ok, Err, Some, None}
use Rattle.std.specs.Prelude.{◌==◌, ◌&&◌, ◌||◌, not, nat_lt, codes, if◌then◌else◌}
use Rattle.std.specs.declared.option.Option.{Option}
use Rattle.std.specs.Char.{digit_value, is_ascii_hexdigit}
use Rattle.std.specs.List.{list_all}
use Rattle.std.specs.Str.{bytes_eq}
use Rattle.std.proofs.lemmas.Bool.Decides.{nat_tests}
use Rattle.std.proofs.lemmas.List.{append-nil}
use Rattle.text_lines.specs.Text.{lines_of, words_in, parsed_time, is_some_bytes}
use Rattle.picture_script.specs.Script.{Drawing, Colour, Border, Fill, Rect, Row, Show, shows, pictures, hold_time, picture_pixel}
use Rattle.picture_script.specs.ScriptGrammar.{small_number, numbers_in, colour_in, pixels_in, colour_of, border_of, fill_of, rect_of, row_of, show_of, colour_line, border_line, fill_line, rect_line, row_line, show_line, is_in_range, is_after_hold, later_reason, unless_refused, checked_line, checked_command, checked_words, checked_lines, is_passed_over, read_script, grown, script_step}
use Rattle.picture_script.proofs.Refusals.{reading_ends}
use Rattle.text_lines.proofs.ReadOn.{read_on-taken, read_on-refused}
use Rattle.picture_script.specs.declared.reasons.ScriptWhy.{ScriptWhy}
use Rattle.picture_script.specs.declared.reasons.ScriptWhy.TheVariants.{UnknownCommand, OutOfRange, TimeOrder, TooMany}
use Rattle.pack_schedule.specs.Shown.{AreTimesInOrder, AreColoursInRange}
use Rattle.subcode_author.proofs.Ranges.{InColours, AllInColours, in_colours-append, pixels_in_range, colours_in_range}
use Rattle.subcode_author.proofs.Times.{InOrder, none_in_order, one_more, shows_more, times_in_order}

-- If a line is read, the colours of its table or its pixels are in their ranges.
abbrev IsSpelled : Drawing → Type 0
IsSpelled (Colour number value) = value < 4096
IsSpelled (Row x y pixels) = (i : ℕ) → get_or pixels i 0 < 16
IsSpelled line = Unit {0}

hex_below : (d : ℕ) → is_ascii_hexdigit d ≡ true → digit_value d < 16
hex_below d h = grind (arith, nat_tests)

and_true : (a b : Bool) → (a && b) ≡ true → (a ≡ true) × (b ≡ true)
and_true true true h = (refl, refl)
and_true true false h = absurd (cc)
and_true false b h = absurd (cc)

digits_below : (digits : List ℕ) → list_all is_ascii_hexdigit digits ≡ true → (i : ℕ)
    → get_or (map digit_value digits) i 0 < 16
digits_below [] h i = omega arith
digits_below (d ∷ digits) h zero =
    hex_below d (and_true (is_ascii_hexdigit d) (list_all is_ascii_hexdigit digits) h).0
digits_below (d ∷ digits) h (suc i) =
    digits_below digits (and_true (is_ascii_hexdigit d) (list_all is_ascii_hexdigit digits) h).1 i

value_below : (a b c : ℕ) → a < 16 → b < 16 → c < 16 → 256 * a + 16 * b + c < 4096
value_below a b c x y z = omega arith

guarded : {X : Type 0} (b : Bool) (x y : X) → (if b then Some x else None) ≡ Some y → (b ≡ true) × (x ≡ y)
guarded true x y h = (refl, cc)
guarded false x y h = absurd (cc)

all_three : (a b d e f : Bool) → (a && b && d && e && f) ≡ true → (d ≡ true) × (e ≡ true) × (f ≡ true)
all_three true true true true true h = (refl, refl, refl)
all_three true true true true false h = absurd (cc)
all_three true true true false f h = absurd (cc)
all_three true true false e f h = absurd (cc)
all_three true false d e f h = absurd (cc)
all_three false b d e f h = absurd (cc)

colour_spelled : (word : List ℕ) (value : ℕ) → colour_in word ≡ Some value → value < 4096
unfolding colour_in
colour_spelled word value h =
    let g = guarded _ _ value h in
    let hex =
    all_three (length word == 4) (get_or word 0 0 == 48) (is_ascii_hexdigit (get_or word 1 0))
    (is_ascii_hexdigit (get_or word 2 0)) (is_ascii_hexdigit (get_or word 3 0)) g.0 in
    subst (λ n. n < 4096) g.1
    (value_below (digit_value (get_or word 1 0)) (digit_value (get_or word 2 0))
    (digit_value (get_or word 3 0)) (hex_below (get_or word 1 0) hex.0) (hex_below (get_or word 2 0) hex.1)
    (hex_below (get_or word 3 0) hex.2))

pixels_spelled : (word pixels : List ℕ) → pixels_in word ≡ Some pixels → (i : ℕ) → get_or pixels i 0 < 16
unfolding pixels_in
pixels_spelled word pixels h =
    let g = guarded _ _ pixels h in
    subst (λ (ps : List ℕ). (i : ℕ) → get_or ps i 0 < 16) g.1
    (digits_below word (and_true (is_some_bytes word) (list_all is_ascii_hexdigit word) g.0).1)

-- The meaning of each kind of line, if its words are valid.

some_is : {X : Type 0} (x y : X) → Some x ≡ Some y → x ≡ y
some_is x y h = cc

colour_of-spelled : (number value : Option ℕ) (line : Drawing) → ((v : ℕ) → value ≡ Some v → v < 4096)
    → colour_of number value ≡ Some line
    → IsSpelled line
colour_of-spelled (Some number) (Some value) line small h =
    subst IsSpelled (some_is (Colour number value) line h) (small value refl)
colour_of-spelled (Some number) None line small h = absurd (cc)
colour_of-spelled None value line small h = absurd (cc)

row_of-spelled : (x y : Option ℕ) (pixels : Option (List ℕ)) (line : Drawing)
    → ((ps : List ℕ) → pixels ≡ Some ps → (i : ℕ) → get_or ps i 0 < 16) → row_of x y pixels ≡ Some line
    → IsSpelled line
row_of-spelled (Some x) (Some y) (Some pixels) line small h =
    subst IsSpelled (some_is (Row x y pixels) line h) (small pixels refl)
row_of-spelled (Some x) (Some y) None line small h = absurd (cc)
row_of-spelled (Some x) None pixels line small h = absurd (cc)
row_of-spelled None y pixels line small h = absurd (cc)

colour_line-spelled : (words : List (List ℕ)) (line : Drawing) → colour_line words ≡ Some line
    → IsSpelled line
unfolding colour_line
colour_line-spelled (number ∷ value ∷ []) line h =
    colour_of-spelled (small_number number) (colour_in value) line (colour_spelled value) h
colour_line-spelled [] line h = absurd (cc)
colour_line-spelled (a ∷ []) line h = absurd (cc)
colour_line-spelled (a ∷ b ∷ c ∷ rest) line h = absurd (cc)

border_of-spelled : (numbers : Option (List ℕ)) (line : Drawing) → border_of numbers ≡ Some line
    → IsSpelled line
border_of-spelled (Some (colour ∷ [])) line h = subst IsSpelled (some_is (Border colour) line h) tt
border_of-spelled (Some []) line h = absurd (cc)
border_of-spelled (Some (a ∷ b ∷ rest)) line h = absurd (cc)
border_of-spelled None line h = absurd (cc)

fill_of-spelled : (numbers : Option (List ℕ)) (line : Drawing) → fill_of numbers ≡ Some line → IsSpelled line
fill_of-spelled (Some (colour ∷ [])) line h = subst IsSpelled (some_is (Fill colour) line h) tt
fill_of-spelled (Some []) line h = absurd (cc)
fill_of-spelled (Some (a ∷ b ∷ rest)) line h = absurd (cc)
fill_of-spelled None line h = absurd (cc)

rect_of-spelled : (numbers : Option (List ℕ)) (line : Drawing) → rect_of numbers ≡ Some line → IsSpelled line
rect_of-spelled (Some (x ∷ y ∷ width ∷ height ∷ colour ∷ [])) line h =
    subst IsSpelled (some_is (Rect x y width height colour) line h) tt
rect_of-spelled (Some []) line h = absurd (cc)
rect_of-spelled (Some (a ∷ [])) line h = absurd (cc)
rect_of-spelled (Some (a ∷ b ∷ [])) line h = absurd (cc)
rect_of-spelled (Some (a ∷ b ∷ c ∷ [])) line h = absurd (cc)
rect_of-spelled (Some (a ∷ b ∷ c ∷ d ∷ [])) line h = absurd (cc)
rect_of-spelled (Some (a ∷ b ∷ c ∷ d ∷ e ∷ f ∷ rest)) line h = absurd (cc)
rect_of-spelled None line h = absurd (cc)

show_of-spelled : (ready hold : Option ℕ) (line : Drawing) → show_of ready hold ≡ Some line → IsSpelled line
show_of-spelled (Some ready) (Some hold) line h = subst IsSpelled (some_is (Show ready hold) line h) tt
show_of-spelled (Some ready) None line h = absurd (cc)
show_of-spelled None hold line h = absurd (cc)

border_line-spelled : (words : List (List ℕ)) (line : Drawing) → border_line words ≡ Some line
    → IsSpelled line
unfolding border_line
border_line-spelled words line h = border_of-spelled (numbers_in 1 words) line h

fill_line-spelled : (words : List (List ℕ)) (line : Drawing) → fill_line words ≡ Some line → IsSpelled line
unfolding fill_line
fill_line-spelled words line h = fill_of-spelled (numbers_in 1 words) line h

rect_line-spelled : (words : List (List ℕ)) (line : Drawing) → rect_line words ≡ Some line → IsSpelled line
unfolding rect_line
rect_line-spelled words line h = rect_of-spelled (numbers_in 5 words) line h

row_line-spelled : (words : List (List ℕ)) (line : Drawing) → row_line words ≡ Some line → IsSpelled line
unfolding row_line
row_line-spelled (x ∷ y ∷ pixels ∷ []) line h =
    row_of-spelled (small_number x) (small_number y) (pixels_in pixels) line (pixels_spelled pixels) h
row_line-spelled [] line h = absurd (cc)
row_line-spelled (a ∷ []) line h = absurd (cc)
row_line-spelled (a ∷ b ∷ []) line h = absurd (cc)
row_line-spelled (a ∷ b ∷ c ∷ d ∷ rest) line h = absurd (cc)

show_line-spelled : (words : List (List ℕ)) (line : Drawing) → show_line words ≡ Some line → IsSpelled line
unfolding show_line
show_line-spelled (ready ∷ hold ∷ []) line h = show_of-spelled (parsed_time ready) (parsed_time hold) line h
show_line-spelled [] line h = absurd (cc)
show_line-spelled (a ∷ []) line h = absurd (cc)
show_line-spelled (a ∷ b ∷ c ∷ rest) line h = absurd (cc)

-- The line is accepted after the earlier lines.

record IsTaken (before : List Drawing) (line : Drawing) : Type 0 where
  spelled : IsSpelled line
  reason : later_reason before line ≡ None

unless_taken : (before : List Drawing) (said line : Drawing) (reason : Option ScriptWhy)
    → later_reason before said ≡ reason → IsSpelled said → unless_refused said reason ≡ Ok line
    → IsTaken before line
unless_taken before said line None none spelled h =
    let same : said ≡ line = cc in
    subst (IsTaken before) same (record { spelled = spelled; reason = none })
unless_taken before said line (Some why) some spelled h = absurd (cc)

taken_line : (before : List Drawing) (parsed : Option Drawing) (line : Drawing)
    → ((said : Drawing) → parsed ≡ Some said → IsSpelled said) → checked_line before parsed ≡ Ok line
    → IsTaken before line
unfolding checked_line
taken_line before None line spelled h = absurd (cc)
taken_line before (Some said) line spelled h =
    unless_taken before said line (later_reason before said) refl (spelled said refl) h

by_command : (before : List Drawing) (words : List (List ℕ)) (line : Drawing)
    (colour border fill rect row show : Bool)
    → (if colour then checked_line before (colour_line words)
    else (if border then checked_line before (border_line words)
    else (if fill then checked_line before (fill_line words)
    else (if rect then checked_line before (rect_line words)
    else (if row then checked_line before (row_line words)
    else (if show then checked_line before (show_line words)
    else Err UnknownCommand)))))) ≡ Ok line → IsTaken before line
by_command before words line true border fill rect row show h =
    taken_line before (colour_line words) line (colour_line-spelled words) h
by_command before words line false true fill rect row show h =
    taken_line before (border_line words) line (border_line-spelled words) h
by_command before words line false false true rect row show h =
    taken_line before (fill_line words) line (fill_line-spelled words) h
by_command before words line false false false true row show h =
    taken_line before (rect_line words) line (rect_line-spelled words) h
by_command before words line false false false false true show h =
    taken_line before (row_line words) line (row_line-spelled words) h
by_command before words line false false false false false true h =
    taken_line before (show_line words) line (show_line-spelled words) h
by_command before words line false false false false false false h = absurd (cc)

taken_words : (before : List Drawing) (words : List (List ℕ)) (line : Drawing)
    → checked_words before words ≡ Ok line
    → IsTaken before line
unfolding checked_words checked_command
taken_words before [] line h = absurd (cc)
taken_words before (command ∷ words) line h =
    by_command before words line (bytes_eq command (codes "colour")) (bytes_eq command (codes "border"))
    (bytes_eq command (codes "fill")) (bytes_eq command (codes "rect")) (bytes_eq command (codes "row"))
    (bytes_eq command (codes "show")) h

-- Its colours are in their ranges.

ranged : (b : Bool) (why : ScriptWhy) → (if b then None else Some why) ≡ None → b ≡ true
ranged true why h = refl
ranged false why h = absurd (cc)

lt_true : (m n : ℕ) → nat_lt m n ≡ true → m < n
lt_true m n h = grind (arith, nat_tests)

rect_colour : (x y width height colour : ℕ) → is_in_range (Rect x y width height colour) ≡ true → colour < 16
rect_colour x y width height colour h = grind (arith, nat_tests)

in_colours : (before : List Drawing) (line : Drawing) → IsTaken before line → InColours line
in_colours before (Colour number value) taken = taken.spelled
in_colours before (Border colour) taken = lt_true colour 16 (ranged _ OutOfRange taken.reason)
in_colours before (Fill colour) taken = lt_true colour 16 (ranged _ OutOfRange taken.reason)
in_colours before (Rect x y width height colour) taken =
    rect_colour x y width height colour (ranged _ OutOfRange taken.reason)
in_colours before (Row x y pixels) taken = taken.spelled
in_colours before (Show ready hold) taken = tt

-- The times of an accepted line are in order.

show_taken : (late room : Bool)
    → (if late then Some TimeOrder else (if room then Some TooMany else None)) ≡ None
    → late ≡ false
show_taken true room h = absurd (cc)
show_taken false room h = refl

times_taken : (before : List Drawing) (ready hold : ℕ)
    → (nat_lt hold ready || not (is_after_hold before ready)) ≡ false
    → (ready ≤ hold) × (0 < pictures before → hold_time before (pictures before - 1) < ready)
times_taken before ready hold h = (grind (arith, nat_tests), λ some. grind (arith, nat_tests))

times_more : (before : List Drawing) (line : Drawing) → InOrder (shows before) → IsTaken before line
    → InOrder (shows (before ++ line ∷ []))
times_more before (Show ready hold) order taken =
    let times = times_taken before ready hold (show_taken _ _ taken.reason) in
    subst InOrder (sym (shows_more before (Show ready hold)))
    (one_more (shows before) ready hold order times.0 times.1)
times_more before (Colour number value) order taken =
    subst InOrder (sym (shows_more before (Colour number value) ∙ append-nil (shows before))) order
times_more before (Border colour) order taken =
    subst InOrder (sym (shows_more before (Border colour) ∙ append-nil (shows before))) order
times_more before (Fill colour) order taken =
    subst InOrder (sym (shows_more before (Fill colour) ∙ append-nil (shows before))) order
times_more before (Rect x y width height colour) order taken =
    subst InOrder (sym (shows_more before (Rect x y width height colour) ∙ append-nil (shows before))) order
times_more before (Row x y pixels) order taken =
    subst InOrder (sym (shows_more before (Row x y pixels) ∙ append-nil (shows before))) order

-- The lines one after another.

record IsSound (script : List Drawing) : Type 0 where
  colours : AllInColours script
  times : InOrder (shows script)

one_line_more : (before : List Drawing) (line : Drawing) → IsSound before → IsTaken before line
    → IsSound (before ++ line ∷ [])
one_line_more before line sound taken = record {
  colours = in_colours-append before (line ∷ []) sound.colours (in_colours before line taken, tt);
  times = times_more before line sound.times taken;
}

-- one more line of the text is valid
step_sound : (before next : List Drawing) (said : Result Drawing ScriptWhy) (passed : Bool)
    → ((line : Drawing) → said ≡ Ok line → IsTaken before line) → IsSound before
    → (if passed then Ok before else grown before said) ≡ Ok next → IsSound next
step_sound before next said true taken sound h = let same : before ≡ next = cc in subst IsSound same sound
step_sound before next (Ok line) false taken sound h = let same : before ++ line ∷ [] ≡ next = cc in
    subst IsSound same (one_line_more before line sound (taken line refl))
step_sound before next (Err why) false taken sound h = absurd (cc)

none_left : (number : ℕ) (before script : List Drawing) → checked_lines number before [] ≡ Ok script
    → before ≡ script
none_left number before script h =
    let same : checked_lines number before [] ≡ Ok before = reading_ends number before [] refl in
    cc

line_sound : (number : ℕ) (before : List Drawing) (line : List ℕ) (rest : List (List ℕ))
    (script : List Drawing) (answer : Result (List Drawing) ScriptWhy) → script_step before line ≡ answer
    → ((n : ℕ) (next : List Drawing) → IsSound next → checked_lines n next rest ≡ Ok script → IsSound script)
    → ((next : List Drawing) → answer ≡ Ok next → IsSound next)
    → checked_lines number before (line ∷ rest) ≡ Ok script
    → IsSound script
unfolding checked_lines
line_sound number before line rest script (Ok next) is later sound h =
    later (number + 1) next (sound next refl)
    (sym (read_on-taken script_step (λ script. Ok script) number before next line rest is) ∙ h)
line_sound number before line rest script (Err why) is later sound h =
    never (number, why) script
    (sym (read_on-refused script_step (λ script. Ok script) number before why line rest is) ∙ h)
  where
    never : (fault : ℕ × ScriptWhy) (script : List Drawing) → Err fault ≡ Ok script → IsSound script
    never fault script h = absurd (cc)

lines_sound : (number : ℕ) (before : List Drawing) (lines : List (List ℕ)) (script : List Drawing)
    → IsSound before → checked_lines number before lines ≡ Ok script
    → IsSound script
lines_sound number before [] script sound h = subst IsSound (none_left number before script h) sound
lines_sound number before (line ∷ rest) script sound h =
    line_sound number before line rest script (script_step before line) refl
    (λ n next. lines_sound n next rest script)
    (λ next. step_sound before next (checked_words before (words_in line)) (is_passed_over line)
    (taken_words before (words_in line)) sound) h

-- The whole script.

none_sound : IsSound []
unfolding shows
none_sound = record { colours = tt; times = none_in_order }

script_sound : (text : List ℕ) (script : List Drawing) → read_script text ≡ Ok script → IsSound script
unfolding read_script
script_sound text script h = lines_sound 1 [] (lines_of text) script none_sound h

pub accepted_times : (text : List ℕ) (script : List Drawing) → read_script text ≡ Ok script
    → AreTimesInOrder script
accepted_times text script h = times_in_order script (script_sound text script h).times

pub accepted_colours : (text : List ℕ) (script : List Drawing) → read_script text ≡ Ok script
    → AreColoursInRange script
accepted_colours text script h = colours_in_range script (script_sound text script h).colours

pub accepted_pixels : (text : List ℕ) (script : List Drawing) → read_script text ≡ Ok script → (k x y : ℕ)
    → picture_pixel script k x y < 16
accepted_pixels text script h = pixels_in_range script (script_sound text script h).colours
