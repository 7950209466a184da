-- Hexadecimal digits of colours and of rows of pixels.
use Rattle.std.proofs.Common.{◌≡◌, ℕ, ◌+◌, ◌*◌, ◌<◌, Bool, true, false, ◌&&◌, if◌then◌else◌, List, [], ◌∷◌, ◌++◌, length, map, take, get_or, slice_index, Some, None, refl, sym, ap, ◌∙◌, ◌==◌, rules, tests}
use Rattle.std.specs.List.{list_all}
use Rattle.std.specs.Char.{is_ascii_hexdigit, digit_value}
use Rattle.std.proofs.lemmas.Bool.{cond-true, cond-false, true≢false}
use Rattle.std.proofs.lemmas.List.{take_more, map-append, append_assoc}
use Rattle.std.proofs.lemmas.List.Folds.{list_all_at}
use Rattle.std.proofs.lemmas.Option.{none-some}
use Rattle.picture_script.specs.ScriptGrammar.{colour_in}

-- a digit that was read, or none
pub no_digit : (t : Bool) (d : ℕ) → None ≡ (if t then Some d else None) → t ≡ false
no_digit true d e = absurd (none-some d e)
no_digit false d e = refl

pub a_digit : (t : Bool) (d n : ℕ) → Some n ≡ (if t then Some d else None) → (t ≡ true) × (n ≡ d)
a_digit true d n e = (refl, cc)
a_digit false d n e = absurd (none-some n (sym e))

-- all bytes of a row are digits
pub all_digits : (digits : List ℕ) (i : ℕ) → list_all is_ascii_hexdigit digits ≡ true → i < length digits
    → is_ascii_hexdigit (get_or digits i 0) ≡ false
    → ⊥
all_digits digits i all below other =
    true≢false (sym all ∙ list_all_at is_ascii_hexdigit digits i 0 below other)

-- one more colour of a row
pub colours_more : (old now digits : List ℕ) (i d : ℕ) → i < length digits
    → now ≡ old ++ map digit_value (take i digits) → d ≡ digit_value (get_or digits i 0)
    → now ++ d ∷ [] ≡ old ++ map digit_value (take (i + 1) digits)
colours_more old now digits i d below before is =
    let more =
    ap (map digit_value) (take_more digits i 0 below)
    ∙ map-append digit_value (take i digits) (get_or digits i 0 ∷ []) in
    ap (λ (xs : List ℕ). xs ++ d ∷ []) before ∙ append_assoc old (map digit_value (take i digits)) (d ∷ [])
    ∙ ap (λ (n : ℕ). old ++ (map digit_value (take i digits) ++ n ∷ [])) is
    ∙ ap (λ (xs : List ℕ). old ++ xs) (sym more)

and-false : (a : Bool) → (a && false) ≡ false
and-false true = refl
and-false false = refl

and_fails : (a x : Bool) → x ≡ false → (a && x) ≡ false
and_fails a x e = ap (λ (t : Bool). a && t) e ∙ and-false a

shape : List ℕ → Bool
shape word = length word == 4 && slice_index word 0 == 48

digit : List ℕ → ℕ → Bool
digit word k = is_ascii_hexdigit (slice_index word k)

value : List ℕ → ℕ
value word =
    256 * digit_value (slice_index word 1) + 16 * digit_value (slice_index word 2)
    + digit_value (slice_index word 3)

colour_is : (word : List ℕ)
    → colour_in word
    ≡ (if shape word && digit word 1 && digit word 2 && digit word 3 then Some (value word) else None)
unfolding colour_in shape digit value
colour_is word = refl

-- a word with a byte that is no digit is no colour
pub no_red : (word : List ℕ) → is_ascii_hexdigit (slice_index word 1) ≡ false → colour_in word ≡ None
unfolding digit
no_red word red =
    colour_is word
    ∙ cond-false (shape word && digit word 1 && digit word 2 && digit word 3) (Some (value word)) None
    (ap (λ (t : Bool). t && digit word 2 && digit word 3) (and_fails (shape word) (digit word 1) red))

pub no_green : (word : List ℕ) → is_ascii_hexdigit (slice_index word 2) ≡ false → colour_in word ≡ None
unfolding digit
no_green word green =
    colour_is word
    ∙ cond-false (shape word && digit word 1 && digit word 2 && digit word 3) (Some (value word)) None
    (ap (λ (t : Bool). t && digit word 3) (and_fails (shape word && digit word 1) (digit word 2) green))

pub no_blue : (word : List ℕ) → is_ascii_hexdigit (slice_index word 3) ≡ false → colour_in word ≡ None
unfolding digit
no_blue word blue =
    colour_is word
    ∙ cond-false (shape word && digit word 1 && digit word 2 && digit word 3) (Some (value word)) None
    (and_fails (shape word && digit word 1 && digit word 2) (digit word 3) blue)

shape_holds : (word : List ℕ) → length word ≡ 4 → slice_index word 0 ≡ 48 → shape word ≡ true
unfolding shape
shape_holds word size zero = search (rules, tests)

-- a word whose three bytes are digits is a colour
pub some_colour : (word : List ℕ) (red green blue : ℕ) → length word ≡ 4 → slice_index word 0 ≡ 48
    → Some red
    ≡ (if is_ascii_hexdigit (slice_index word 1) then Some (digit_value (slice_index word 1)) else None)
    → Some green
    ≡ (if is_ascii_hexdigit (slice_index word 2) then Some (digit_value (slice_index word 2)) else None)
    → Some blue
    ≡ (if is_ascii_hexdigit (slice_index word 3) then Some (digit_value (slice_index word 3)) else None)
    → Some (256 * red + 16 * green + blue) ≡ colour_in word
unfolding digit value
some_colour word red green blue size zero r g b =
    let red_is = a_digit (is_ascii_hexdigit (slice_index word 1)) (digit_value (slice_index word 1)) red r in
    let green_is =
    a_digit (is_ascii_hexdigit (slice_index word 2)) (digit_value (slice_index word 2)) green g in
    let blue_is =
    a_digit (is_ascii_hexdigit (slice_index word 3)) (digit_value (slice_index word 3)) blue b in
    let all : (shape word && digit word 1 && digit word 2 && digit word 3) ≡ true =
    ap (λ (t : Bool). t && digit word 1 && digit word 2 && digit word 3) (shape_holds word size zero)
    ∙ ap (λ (t : Bool). t && digit word 2 && digit word 3) red_is.0
    ∙ ap (λ (t : Bool). t && digit word 3) green_is.0
    ∙ blue_is.0 in
    ap (λ (n : ℕ). Some (256 * n + 16 * green + blue)) red_is.1
    ∙ ap (λ (n : ℕ). Some (256 * digit_value (slice_index word 1) + 16 * n + blue)) green_is.1
    ∙ ap
    (λ (n : ℕ). Some (256 * digit_value (slice_index word 1) + 16 * digit_value (slice_index word 2) + n))
    blue_is.1
    ∙ sym (colour_is word
    ∙ cond-true (shape word && digit word 1 && digit word 2 && digit word 3) (Some (value word)) None all)
