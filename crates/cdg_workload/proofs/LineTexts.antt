-- The lines of a generated script, without their line feeds, and what each line says.
use Rattle.std.proofs.Common.{◌≡◌, ℕ, suc, ◌+◌, ◌-◌, ◌*◌, ◌/◌, ◌%◌, ◌<◌, ◌≤◌, Bool, true, false, not, ◌&&◌, ◌||◌, ◌==◌, cond, nat_le, nat_lt, List, [], ◌∷◌, ◌++◌, length, get_or, Some, None, Ok, decimal, codes, refl, ap, ap₂, ◌∙◌, append_assoc, lit<, mod-lt, arith}
use Rattle.std.proofs.Math.Dec.{eqb-suc-zero}
use Rattle.std.proofs.lemmas.Bool.{and_from, and_parts, le-leb, lt-leb, lt-ltb, le-ltb, leb-true, eqb-true, false≢true}
use Rattle.std.proofs.lemmas.List.Folds.{list_all-append}
use Rattle.std.specs.declared.option.Option.{Option}
use Rattle.std.specs.Char.{digit_char}
use Rattle.bit_lists.specs.Digits.{digits, line_feed}
use Rattle.disc_time.specs.Time.{time_text, minute_of, second_of, frame_of}
use Rattle.gf64.proofs.Tables.{all_below, all_below-at}
use Rattle.text_lines.specs.Text.{words_in, without_blanks}
use Rattle.text_lines.proofs.Times.{time_is}
use Rattle.picture_script.specs.Script.{Drawing, Rect, Show, pictures}
use Rattle.picture_script.specs.ScriptGrammar.{small_number, numbers_in, number_before, colour_in, colour_of, rect_of, show_of, colour_line, rect_line as read_rect, show_line as read_show, is_in_range, is_after_hold, unless_refused, checked_line, checked_command, checked_words, is_passed_over}
use Rattle.picture_script.specs.declared.reasons.ScriptWhy.TheVariants.{OutOfRange, TimeOrder, TooMany}
use Rattle.cdg_workload.specs.Generator.{low_half, high_half}
use Rattle.cdg_workload.specs.Script.{generated_rect_line, grey_line, generated_show_line}
use Rattle.cdg_workload.specs.Generated.{grey, rect}
use Rattle.cdg_workload.proofs.Splitting.{all_from, next_word, last_word}
use Rattle.cdg_workload.proofs.Numerals.{decimal_graphic, decimal_some, number_of_decimal}

-- The line is printable, and after the earlier lines it says `said`.
pub record IsAccepted (before : List Drawing) (line : List ℕ) (said : Drawing) : Type 0 where
  pub printable : all_from 32 line ≡ true
  pub heard : is_passed_over line ≡ false
  pub read : checked_words before (words_in line) ≡ Ok said

weaker : (w : List ℕ) → all_from 33 w ≡ true → all_from 32 w ≡ true
weaker [] all = refl
weaker (b ∷ w) all =
    let (first, others) = and_parts (nat_le 33 b) (all_from 33 w) all in
    let from : 33 ≤ b = leb-true 33 b first in
    and_from (nat_le 32 b) (all_from 32 w) (le-leb 32 b (omega arith)) (weaker w others)

printable_more : (w rest : List ℕ) → all_from 33 w ≡ true → all_from 32 rest ≡ true
    → all_from 32 (w ++ 32 ∷ rest) ≡ true
printable_more [] rest all others = and_from true (all_from 32 rest) refl others
printable_more (b ∷ w) rest all others =
    let (first, more) = and_parts (nat_le 33 b) (all_from 33 w) all in
    let from : 33 ≤ b = leb-true 33 b first in
    and_from (nat_le 32 b) (all_from 32 (w ++ 32 ∷ rest)) (le-leb 32 b (omega arith))
    (printable_more w rest more others)

read_line_is : (b : ℕ) (rest : List ℕ) → (b == 32 || b == 9) ≡ false → (b == 35) ≡ false
    → is_passed_over (b ∷ rest) ≡ false
unfolding without_blanks
read_line_is b rest blank remark =
    let whole : without_blanks (b ∷ rest) ≡ b ∷ rest =
    ap (λ t. cond t (without_blanks rest) (b ∷ rest)) blank in
    ap (λ l. length l == 0 || get_or l 0 0 == 35) whole
    ∙ ap₂ (λ (s t : Bool). s || t) (eqb-suc-zero (length rest)) remark

-- ---- Rectangles.

unfoldable pub rect_text : List ℕ → List ℕ → List ℕ → List ℕ → List ℕ → List ℕ
rect_text a b c d e = codes "rect" ++ 32 ∷ (a ++ 32 ∷ (b ++ 32 ∷ (c ++ 32 ∷ (d ++ 32 ∷ e))))

rect_regrouped : (a b c d e : List ℕ)
    → codes "rect " ++ a ++ codes " " ++ b ++ codes " " ++ c ++ codes " " ++ d ++ codes " " ++ e ++ line_feed
    ≡ rect_text a b c d e ++ 10 ∷ []
unfolding rect_text
rect_regrouped a b c d e = simp append_assoc

-- five numbers below a thousand, each in its range
pub record AreSmall (x y w h k : ℕ) : Type 0 where
  pub across : x + w ≤ 288
  pub down : y + h ≤ 192
  pub wide : 1 ≤ w
  pub high : 1 ≤ h
  pub colour : k < 16

unfoldable pub rect_of_words : ℕ → ℕ → List ℕ
rect_of_words a b =
    let x = low_half a % 288 in
    let y = high_half a % 192 in
    rect_text (decimal x) (decimal y) (decimal (1 + low_half b % (288 - x)))
    (decimal (1 + high_half b % (192 - y))) (decimal (b / 256 % 16))

numbers_more : (count : ℕ) (word : List ℕ) (words : List (List ℕ)) (n : ℕ) (ns : List ℕ)
    → small_number word ≡ Some n → numbers_in count words ≡ Some ns
    → numbers_in (suc count) (word ∷ words) ≡ Some (n ∷ ns)
unfolding numbers_in
numbers_more count word words n ns first others = ap₂ number_before first others

no_more : numbers_in 0 [] ≡ Some []
unfolding numbers_in
no_more = refl

five_numbers : (x y w h k : ℕ) → AreSmall x y w h k
    → numbers_in 5 (decimal x ∷ decimal y ∷ decimal w ∷ decimal h ∷ decimal k ∷ []) ≡ Some
    (x ∷ y ∷ w ∷ h ∷ k ∷ [])
five_numbers x y w h k small =
    numbers_more 4 _ _ _ _ (number_of_decimal x (omega (arith, small.across)))
    (numbers_more 3 _ _ _ _ (number_of_decimal y (omega (arith, small.down)))
    (numbers_more 2 _ _ _ _ (number_of_decimal w (omega (arith, small.across)))
    (numbers_more 1 _ _ _ _ (number_of_decimal h (omega (arith, small.down)))
    (numbers_more 0 _ _ _ _ (number_of_decimal k (omega (arith, small.colour))) no_more))))

rect_words : (x y w h k : ℕ) → AreSmall x y w h k
    → words_in (rect_text (decimal x) (decimal y) (decimal w) (decimal h) (decimal k)) ≡ codes "rect"
    ∷ decimal x ∷ decimal y ∷ decimal w ∷ decimal h ∷ decimal k ∷ []
unfolding rect_text
rect_words x y w h k small =
    let x_lt : x < 1000 = omega (arith, small.across) in
    let y_lt : y < 1000 = omega (arith, small.down) in
    let w_lt : w < 1000 = omega (arith, small.across) in
    let h_lt : h < 1000 = omega (arith, small.down) in
    let k_lt : k < 1000 = omega (arith, small.colour) in
    next_word (codes "rect") _ refl (lit< tt)
    ∙ ap (λ ws. codes "rect" ∷ ws) (next_word (decimal x) _ (decimal_graphic x x_lt) (decimal_some x x_lt)
    ∙ ap (λ ws. decimal x ∷ ws) (next_word (decimal y) _ (decimal_graphic y y_lt) (decimal_some y y_lt)
    ∙ ap (λ ws. decimal y ∷ ws) (next_word (decimal w) _ (decimal_graphic w w_lt) (decimal_some w w_lt)
    ∙ ap (λ ws. decimal w ∷ ws) (next_word (decimal h) _ (decimal_graphic h h_lt) (decimal_some h h_lt)
    ∙ ap (λ ws. decimal h ∷ ws) (last_word (decimal k) (decimal_graphic k k_lt) (decimal_some k k_lt))))))

in_window : (x y w h k : ℕ) → AreSmall x y w h k → is_in_range (Rect x y w h k) ≡ true
in_window x y w h k small =
    and_from (nat_le 1 w && nat_le 1 h && nat_le (x + w) 288 && nat_le (y + h) 192) (nat_lt k 16)
    (and_from (nat_le 1 w && nat_le 1 h && nat_le (x + w) 288) (nat_le (y + h) 192)
    (and_from (nat_le 1 w && nat_le 1 h) (nat_le (x + w) 288)
    (and_from (nat_le 1 w) (nat_le 1 h) (le-leb 1 w small.wide) (le-leb 1 h small.high))
    (le-leb (x + w) 288 small.across))
    (le-leb (y + h) 192 small.down)) (lt-ltb k 16 small.colour)

rect_read : (before : List Drawing) (x y w h k : ℕ) → AreSmall x y w h k
    → checked_words before (codes "rect" ∷ decimal x ∷ decimal y ∷ decimal w ∷ decimal h ∷ decimal k ∷ [])
    ≡ Ok (Rect x y w h k)
unfolding checked_words checked_command checked_line read_rect
rect_read before x y w h k small =
    ap (λ o. checked_line before (rect_of o)) (five_numbers x y w h k small)
    ∙ ap (λ t. unless_refused (Rect x y w h k) (cond t None (Some OutOfRange))) (in_window x y w h k small)

rect_printable : (x y w h k : ℕ) → AreSmall x y w h k
    → all_from 32 (rect_text (decimal x) (decimal y) (decimal w) (decimal h) (decimal k)) ≡ true
unfolding rect_text
rect_printable x y w h k small =
    let to_k : List ℕ = decimal k in
    let to_h : List ℕ = decimal h ++ 32 ∷ to_k in
    let to_w : List ℕ = decimal w ++ 32 ∷ to_h in
    let to_y : List ℕ = decimal y ++ 32 ∷ to_w in
    printable_more (codes "rect") (decimal x ++ 32 ∷ to_y) refl
    (printable_more (decimal x) to_y (decimal_graphic x (omega (arith, small.across)))
    (printable_more (decimal y) to_w (decimal_graphic y (omega (arith, small.down)))
    (printable_more (decimal w) to_h (decimal_graphic w (omega (arith, small.across)))
    (printable_more (decimal h) to_k (decimal_graphic h (omega (arith, small.down)))
    (weaker (decimal k) (decimal_graphic k (omega (arith, small.colour))))))))

rect_accepted_at : (before : List Drawing) (x y w h k : ℕ) → AreSmall x y w h k
    → IsAccepted before (rect_text (decimal x) (decimal y) (decimal w) (decimal h) (decimal k))
    (Rect x y w h k)
unfolding rect_text
rect_accepted_at before x y w h k small = record {
  printable = rect_printable x y w h k small;
  heard = read_line_is 114 _ refl refl;
  read = ap (checked_words before) (rect_words x y w h k small) ∙ rect_read before x y w h k small;
}

pub small_rect : (a b : ℕ)
    → AreSmall (low_half a % 288) (high_half a % 192) (1 + low_half b % (288 - low_half a % 288))
    (1 + high_half b % (192 - high_half a % 192)) (b / 256 % 16)
small_rect a b =
    let x = low_half a % 288 in
    let y = high_half a % 192 in
    let x_lt : x < 288 = omega arith in
    let y_lt : y < 192 = omega arith in
    let w_lt : low_half b % (288 - x) < 288 - x = mod-lt (low_half b) (omega (arith, x_lt)) in
    let h_lt : high_half b % (192 - y) < 192 - y = mod-lt (high_half b) (omega (arith, y_lt)) in
    record {
      across = omega (arith, x_lt, w_lt);
      down = omega (arith, y_lt, h_lt);
      wide = omega arith;
      high =
          omega arith;
      colour = omega arith;
    }

pub rect_accepted : (before : List Drawing) (a b : ℕ) → IsAccepted before (rect_of_words a b) (rect a b)
unfolding rect_of_words
rect_accepted before a b = rect_accepted_at before _ _ _ _ _ (small_rect a b)

pub rect_line_is : (a b : ℕ) → generated_rect_line a b ≡ rect_of_words a b ++ 10 ∷ []
unfolding generated_rect_line rect_of_words
rect_line_is a b = rect_regrouped _ _ _ _ _

-- ---- Greys.

unfoldable pub grey_text : ℕ → List ℕ
grey_text k =
    codes "colour" ++ 32 ∷ (decimal k ++ 32 ∷ (48 ∷ digit_char k ∷ digit_char k ∷ digit_char k ∷ []))

grey_regrouped : (a d : List ℕ)
    → codes "colour " ++ a ++ codes " 0" ++ d ++ line_feed ≡ (codes "colour" ++ 32 ∷ (a ++ 32 ∷ (48 ∷ d)))
    ++ 10 ∷ []
grey_regrouped a d = simp append_assoc

pub grey_line_is : (k : ℕ) → grey_line k ≡ grey_text k ++ 10 ∷ []
unfolding grey_line grey_text
grey_line_is k = grey_regrouped (decimal k) (digit_char k ∷ digit_char k ∷ digit_char k ∷ [])

is_value : Option ℕ → ℕ → Bool
is_value None n = false
is_value (Some m) n = m == n

value_is : (o : Option ℕ) (n : ℕ) → is_value o n ≡ true → o ≡ Some n
unfolding is_value
value_is None n test = absurd (false≢true test)
value_is (Some m) n test = ap (λ k. Some k) (eqb-true m n test)

grey_value : ℕ → List ℕ
grey_value k = 48 ∷ digit_char k ∷ digit_char k ∷ digit_char k ∷ []

is_grey : ℕ → Bool
is_grey k = is_value (colour_in (grey_value k)) (256 * k + 16 * k + k) && all_from 33 (grey_value k)

test_greys : all_below is_grey 16 ≡ true
unfolding all_below is_grey is_value grey_value colour_in
test_greys = refl

pub grey_accepted : (before : List Drawing) (k : ℕ) → k < 16 → IsAccepted before (grey_text k) (grey k)
unfolding grey_text is_grey grey_value checked_words checked_command checked_line colour_line
grey_accepted before k lt =
    let k_lt : k < 1000 = omega arith in
    let (value_test, graphic) = and_parts (is_value (colour_in (grey_value k)) (256 * k + 16 * k + k))
    (all_from 33 (grey_value k)) (all_below-at is_grey 16 k test_greys lt) in
    let value : colour_in (grey_value k) ≡ Some (256 * k + 16 * k + k) = value_is _ _ value_test in
    let words : words_in (grey_text k) ≡ codes "colour" ∷ decimal k ∷ grey_value k ∷ [] =
    next_word (codes "colour") (decimal k ++ 32 ∷ grey_value k) refl (lit< tt)
    ∙ ap (λ ws. codes "colour" ∷ ws)
    (next_word (decimal k) (grey_value k) (decimal_graphic k k_lt) (decimal_some k k_lt)
    ∙ ap (λ ws. decimal k ∷ ws) (last_word (grey_value k) graphic (lit< tt))) in
    record {
      printable = printable_more (codes "colour") (decimal k ++ 32 ∷ grey_value k) refl
          (printable_more (decimal k) (grey_value k) (decimal_graphic k k_lt)
          (weaker (grey_value k) graphic));
      heard = read_line_is 99 _ refl refl;
      read = ap (checked_words before) words
          ∙ ap₂ (λ (n v : Option ℕ). checked_line before (colour_of n v)) (number_of_decimal k k_lt) value
          ∙ ap (λ t. unless_refused (grey k) (cond t None (Some OutOfRange))) (lt-ltb k 16 lt);
    }

-- ---- Times.

is_two : ℕ → Bool
is_two n = all_from 33 (digits 2 n)

test_twos : all_below is_two 100 ≡ true
unfolding all_below is_two
test_twos = refl

two_graphic : (n : ℕ) → n < 100 → all_from 33 (digits 2 n) ≡ true
unfolding is_two
two_graphic n lt = all_below-at is_two 100 n test_twos lt

time_graphic : (t : ℕ) → t < 450000 → all_from 33 (time_text t) ≡ true
time_graphic t lt =
    list_all-append (λ b. nat_le 33 b)
    (digits 2 (minute_of t) ++ codes ":" ++ digits 2 (second_of t) ++ codes ":") (digits 2 (frame_of t))
    ∙ and_from _ _
    (list_all-append (λ b. nat_le 33 b) (digits 2 (minute_of t) ++ codes ":" ++ digits 2 (second_of t))
    (codes ":")
    ∙ and_from _ _
    (list_all-append (λ b. nat_le 33 b) (digits 2 (minute_of t) ++ codes ":") (digits 2 (second_of t))
    ∙ and_from _ _ (list_all-append (λ b. nat_le 33 b) (digits 2 (minute_of t)) (codes ":")
    ∙ and_from _ _ (two_graphic (minute_of t) (omega arith)) refl) (two_graphic (second_of t) (omega arith)))
    refl)
    (two_graphic (frame_of t) (omega arith))

unfoldable pub show_text : ℕ → List ℕ
show_text k = codes "show" ++ 32 ∷ (time_text (800 * (k + 1)) ++ 32 ∷ time_text (800 * (k + 1) + 20))

show_regrouped : (a b : List ℕ)
    → codes "show " ++ a ++ codes " " ++ b ++ line_feed ≡ (codes "show" ++ 32 ∷ (a ++ 32 ∷ b)) ++ 10 ∷ []
show_regrouped a b = simp append_assoc

pub show_line_is : (k : ℕ) → generated_show_line k ≡ show_text k ++ 10 ∷ []
unfolding generated_show_line show_text
show_line_is k = show_regrouped (time_text (800 * (k + 1))) (time_text (800 * (k + 1) + 20))

pub show_accepted : (before : List Drawing) (k : ℕ) → k < 500 → pictures before < 20000
    → is_after_hold before (800 * (k + 1)) ≡ true
    → IsAccepted before (show_text k) (Show (800 * (k + 1)) (800 * (k + 1) + 20))
unfolding show_text checked_words checked_command checked_line read_show
show_accepted before k lt few later =
    let r : ℕ = 800 * (k + 1) in
    let h : ℕ = 800 * (k + 1) + 20 in
    let r_lt : r < 450000 = omega arith in
    let h_lt : h < 450000 = omega arith in
    let words : words_in (show_text k) ≡ codes "show" ∷ time_text r ∷ time_text h ∷ [] =
    next_word (codes "show") (time_text r ++ 32 ∷ time_text h) refl (lit< tt)
    ∙ ap (λ ws. codes "show" ∷ ws) (next_word (time_text r) (time_text h) (time_graphic r r_lt) (lit< tt)
    ∙ ap (λ ws. time_text r ∷ ws) (last_word (time_text h) (time_graphic h h_lt) (lit< tt))) in
    record {
      printable = printable_more (codes "show") (time_text r ++ 32 ∷ time_text h) refl
          (printable_more (time_text r) (time_text h) (time_graphic r r_lt)
          (weaker (time_text h) (time_graphic h h_lt)));
      heard = read_line_is 115 _ refl refl;
      read = ap (checked_words before) words
          ∙ ap₂ (λ (a b : Option ℕ). checked_line before (show_of a b)) (time_is r r_lt) (time_is h h_lt)
          ∙ ap₂ (λ (s t : Bool). unless_refused (Show r h)
          (cond (s || not t) (Some TimeOrder) (cond (nat_le 20000 (pictures before)) (Some TooMany) None)))
          (le-ltb h r (omega arith)) later
          ∙ ap (λ t. unless_refused (Show r h) (cond t (Some TooMany) None))
          (lt-leb 20000 (pictures before) few);
    }
