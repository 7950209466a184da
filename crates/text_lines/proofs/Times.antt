-- The text of a time, and the parts that are read from it.
use Rattle.std.proofs.Common.{◌≡◌, ℕ, ◌+◌, ◌-◌, ◌*◌, ◌/◌, ◌%◌, ◌<◌, ◌≤◌, Bool, true, false, ◌&&◌, ◌==◌, cond, nat_le, List, [], ◌∷◌, length, take, drop, Some, None, refl, ap, ap₂, sym, ◌∙◌, arith}
use Rattle.std.specs.Prelude.{IfSome, slice_index}
use Rattle.std.specs.declared.option.Option.{Option}
use Rattle.std.specs.Char.{is_ascii_digit, digit_value}
use Rattle.std.specs.List.{list_all}
use Rattle.std.specs.Str.Parse.{digits_value}
use Rattle.std.proofs.lemmas.Bool.{and_from, and_parts, le-leb, leb-true, eqb-true, false≢true}
use Rattle.bit_lists.specs.Digits.{digits}
use Rattle.bit_lists.proofs.Tests.{all_below, all_below-at}
use Rattle.disc_time.specs.Time.{time_text, minute_of, second_of, frame_of}
use Rattle.disc_time.proofs.Written.{written}
use Rattle.text_lines.specs.Text.{number_in, time_of, parsed_time}

is_value : Option ℕ → ℕ → Bool
is_value None n = false
is_value (Some m) n = m == n

value_is : (o : Option ℕ) (n : ℕ) → is_value o n ≡ true → o ≡ Some n
unfolding is_value
value_is None n test = absurd (false≢true test)
value_is (Some m) n test = ap (λ k. Some k) (eqb-true m n test)

is_two : ℕ → Bool
is_two n = is_value (number_in 2 2 (digits 2 n)) n

test_twos : all_below is_two 100 ≡ true
unfolding all_below is_two is_value number_in
test_twos = refl

-- two digits are read as their number
pub two_is : (n : ℕ) → n < 100 → number_in 2 2 (digits 2 n) ≡ Some n
unfolding is_two
two_is n lt = value_is (number_in 2 2 (digits 2 n)) n (all_below-at is_two 100 n test_twos lt)

-- the text of a time is read as this time
pub time_is : (t : ℕ) → t < 450000 → parsed_time (time_text t) ≡ Some t
unfolding parsed_time
time_is t lt =
    let m = minute_of t in
    let s = second_of t in
    let f = frame_of t in
    let whole : 4500 * m + 75 * s + f ≡ t = omega arith in
    ap (λ o. time_of o (number_in 2 2 (digits 2 s)) (number_in 2 2 (digits 2 f))) (two_is m (omega arith))
    ∙ ap₂ (λ (o p : Option ℕ). time_of (Some m) o p) (two_is s (omega arith)) (two_is f (omega arith))
    ∙ ap (λ b. cond b (Some (4500 * m + 75 * s + f)) None)
    (and_from (nat_le s 59) (nat_le f 74) (le-leb s 59 (omega arith)) (le-leb f 74 (omega arith)))
    ∙ ap (λ n. Some n) whole

guarded : (b : Bool) (o : Option ℕ) (n : ℕ) → cond b o None ≡ Some n → (b ≡ true) × (o ≡ Some n)
guarded true o n e = (refl, e)
guarded false o n e = cc

some_is : (m n : ℕ) → Some m ≡ Some n → m ≡ n
some_is m n e = cc

digit_is : (c : ℕ) → is_ascii_digit c ≡ true → (48 ≤ c) × (c ≤ 57) × (digit_value c ≡ c - 48)
digit_is c is = (grind arith, grind arith, grind arith)

-- two digits, from their number
two_of : (a b n : ℕ) → number_in 2 2 (a ∷ b ∷ []) ≡ Some n → (n ≤ 99) × (a ≡ 48 + n / 10) × (b ≡ 48 + n % 10)
unfolding number_in
two_of a b n e =
    let is = guarded (list_all is_ascii_digit (a ∷ b ∷ [])) (Some (digits_value 10 (a ∷ b ∷ []))) n e in
    let first = and_parts (is_ascii_digit a) (is_ascii_digit b && true) is.0 in
    let second = and_parts (is_ascii_digit b) true first.1 in
    let tens = digit_is a first.0 in
    let ones = digit_is b second.0 in
    let value : digits_value 10 (a ∷ b ∷ []) ≡ n = some_is _ n is.1 in
    let sum : n ≡ 10 * (a - 48) + (b - 48) = omega (arith, value, tens.2, ones.2) in (
      omega (arith, tens.0, tens.1, ones.0, ones.1, sum),
      omega (arith, tens.0, tens.1, ones.0, ones.1, sum),
      omega (arith, tens.0, tens.1, ones.0, ones.1, sum),
    )

-- the parts of a time that was read
record Parts (o p q : Option ℕ) (t : ℕ) : Type 0 where
  min : ℕ
  sec : ℕ
  frame : ℕ
  min_is : o ≡ Some min
  sec_is : p ≡ Some sec
  frame_is : q ≡ Some frame
  sec_range : sec ≤ 59
  frame_range : frame ≤ 74
  block : t ≡ 4500 * min + 75 * sec + frame

parts_of : (o p q : Option ℕ) (t : ℕ) → time_of o p q ≡ Some t → Parts o p q t
parts_of None p q t e = cc
parts_of (Some a) None q t e = cc
parts_of (Some a) (Some b) None t e = cc
parts_of (Some a) (Some b) (Some c) t e =
    let is = guarded (nat_le b 59 && nat_le c 74) (Some (4500 * a + 75 * b + c)) t e in
    let ranges = and_parts (nat_le b 59) (nat_le c 74) is.0 in
    record {
      min = a;
      sec = b;
      frame = c;
      min_is = refl;
      sec_is = refl;
      frame_is = refl;
      sec_range = leb-true b 59 ranges.0;
      frame_range = leb-true c 74 ranges.1;
      block = sym (some_is _ t is.1);
    }

eight : (word : List ℕ) (t : ℕ) → length word ≡ 8 → slice_index word 2 ≡ 58 → slice_index word 5 ≡ 58
    → time_of (number_in 2 2 (take 2 word)) (number_in 2 2 (take 2 (drop 3 word)))
    (number_in 2 2 (drop 6 word))
    ≡ Some t
    → (t < 450000) × (word ≡ time_text t)
eight (a ∷ b ∷ c ∷ d ∷ e ∷ f ∷ g ∷ h ∷ []) t size two five is =
    let parts =
    parts_of (number_in 2 2 (a ∷ b ∷ [])) (number_in 2 2 (d ∷ e ∷ [])) (number_in 2 2 (g ∷ h ∷ [])) t is in
    let x = two_of a b parts.min parts.min_is in
    let y = two_of d e parts.sec parts.sec_is in
    let z = two_of g h parts.frame parts.frame_is in
    let at : t ≡ 75 * (60 * parts.min + parts.sec) + parts.frame = omega (arith, parts.block) in (
      omega (arith, at, x.0, parts.sec_range, parts.frame_range),
      (λ i. a ∷ b ∷ two i ∷ d ∷ e ∷ five i ∷ g ∷ h ∷ [])
          ∙ written a b d e g h parts.min parts.sec parts.frame t x.0 parts.sec_range parts.frame_range x.1
          x.2 y.1 y.2 z.1 z.2 at,
    )
eight [] t size two five is = absurd (omega arith)
eight (a ∷ []) t size two five is = absurd (omega arith)
eight (a ∷ b ∷ []) t size two five is = absurd (omega arith)
eight (a ∷ b ∷ c ∷ []) t size two five is = absurd (omega arith)
eight (a ∷ b ∷ c ∷ d ∷ []) t size two five is = absurd (omega arith)
eight (a ∷ b ∷ c ∷ d ∷ e ∷ []) t size two five is = absurd (omega arith)
eight (a ∷ b ∷ c ∷ d ∷ e ∷ f ∷ []) t size two five is = absurd (omega arith)
eight (a ∷ b ∷ c ∷ d ∷ e ∷ f ∷ g ∷ []) t size two five is = absurd (omega arith)
eight (a ∷ b ∷ c ∷ d ∷ e ∷ f ∷ g ∷ h ∷ i ∷ xs) t size two five is = absurd (omega arith)

-- only the text of a time is read as this time
pub time_written : (word : List ℕ) (t : ℕ) → parsed_time word ≡ Some t → (t < 450000) × (word ≡ time_text t)
unfolding parsed_time
time_written word t e =
    let is = guarded (length word == 8 && slice_index word 2 == 58 && slice_index word 5 == 58)
    (time_of (number_in 2 2 (take 2 word)) (number_in 2 2 (take 2 (drop 3 word)))
    (number_in 2 2 (drop 6 word))) t e in
    let last = and_parts (length word == 8 && slice_index word 2 == 58) (slice_index word 5 == 58) is.0 in
    let first = and_parts (length word == 8) (slice_index word 2 == 58) last.0 in
    eight word t (eqb-true _ _ first.0) (eqb-true _ _ first.1) (eqb-true _ _ last.1) is.1

no_time : (word : List ℕ) (read : Option ℕ) → parsed_time word ≡ read
    → ((block : ℕ) → block < 450000 → word ≡ time_text block → None ≡ Some block)
    → read ≡ None
no_time word None is all = refl
no_time word (Some t) is all =
    let from = time_written word t is in
    let no : None ≡ Some t = all t from.0 from.1 in
    cc

-- a function that reads exactly the texts of times reads their parts
pub as_parsed : (word : List ℕ) (result : Option ℕ)
    → IfSome result (λ block. (block < 450000) × (word ≡ time_text block))
    → ((block : ℕ) → block < 450000 → word ≡ time_text block → result ≡ Some block)
    → result ≡ parsed_time word
as_parsed word None is all = sym (no_time word (parsed_time word) refl all)
as_parsed word (Some t) is all = sym (ap parsed_time is.1 ∙ time_is t is.0)
