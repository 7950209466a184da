-- Hexadecimal digits as the crate `hex` reads them: a word of four digits, and a digit after a 0.
use Rattle.std.proofs.Common.{◌≡◌, ℕ, ◌+◌, ◌*◌, ◌<◌, true, false, if◌then◌else◌, List, [], ◌∷◌, length, slice_index, Option, Some, None, Result, Ok, Err, refl, sym, ap, ◌∙◌, subst, arith, inl, inr}
use Rattle.std.specs.Prelude.{MatchResult}
use Rattle.std.specs.Int.{from_be_bytes}
use Rattle.std.proofs.lemmas.Bool.{cases_lt}
use Rattle.std.proofs.lemmas.Bool.Decides.{nat_tests}
use mir.Syntax.{w16}
use Rattle.std.specs.Char.{is_ascii_hexdigit, digit_value}
use Rattle.hex.specs.Hex.{decode_sized, decode_pairs, digit_or_error, hex_digit_value, value_at}
use Rattle.hex.specs.declared.error.FromHexError.{FromHexError}
use Rattle.picture_script.specs.ScriptGrammar.{colour_in}
use Rattle.picture_script.proofs.HexDigits.{a_digit, no_digit, no_red, no_green, no_blue, some_colour}

-- the digit of a byte, as the definitions read it
abbrev pub digit_in : ℕ → Option ℕ
digit_in c = if is_ascii_hexdigit c then Some (digit_value c) else None

digit_is : (c : ℕ) → hex_digit_value c ≡ digit_in c
digit_is c =
    elim (cases_lt c 48) [
      | inl below ↦ grind (arith, nat_tests)
      | inr from_48 ↦
          elim (cases_lt c 58) [
            | inl below ↦ grind (arith, nat_tests)
            | inr from_58 ↦
                elim (cases_lt c 65) [
                  | inl below ↦ grind (arith, nat_tests)
                  | inr from_65 ↦
                      elim (cases_lt c 71) [
                        | inl below ↦ grind (arith, nat_tests)
                        | inr from_71 ↦
                            elim (cases_lt c 97) [
                              | inl below ↦ grind (arith, nat_tests)
                              | inr from_97 ↦
                                  elim (cases_lt c 103) [
                                    | inl below ↦ grind (arith, nat_tests)
                                    | inr from_103 ↦ grind (arith, nat_tests)
                                  ]
                            ]
                      ]
                ]
          ]
    ]

read : (c i : ℕ) (o : Option ℕ) → hex_digit_value c ≡ o → value_at c i ≡ digit_or_error c i o
read c i o e = ap (digit_or_error c i) e

digit_some : (c v : ℕ) → hex_digit_value c ≡ Some v → Some v ≡ digit_in c
digit_some c v e = sym e ∙ digit_is c

digit_none : (c : ℕ) → hex_digit_value c ≡ None → is_ascii_hexdigit c ≡ false
digit_none c e = no_digit (is_ascii_hexdigit c) (digit_value c) (sym e ∙ digit_is c)

add_zero : (v : ℕ) → 0 + v ≡ v
add_zero v = omega arith

-- the crate reads a digit after a 0 as the definitions do
abbrev DigitRead : ℕ → Result (List ℕ) FromHexError → Type 0
DigitRead c bytes = MatchResult bytes
    (λ value. Some (slice_index value 0) ≡ digit_in c) (λ e. None ≡ digit_in c)

digit_read_as : (c : ℕ) (o : Option ℕ) → hex_digit_value c ≡ o → DigitRead c (decode_sized (48 ∷ c ∷ []) 1)
unfolding decode_pairs
digit_read_as c (Some v) e = rw (read c 1 (Some v) e) (ap Some (add_zero v) ∙ digit_some c v e)
digit_read_as c None e = rw (read c 1 None e) (sym e ∙ digit_is c)

pub digit_read : (c : ℕ) → DigitRead c (decode_sized (48 ∷ c ∷ []) 1)
digit_read c = digit_read_as c (hex_digit_value c) refl

-- the value of a digit is below 16
hex_below : (d : ℕ) → is_ascii_hexdigit d ≡ true → digit_value d < 16
hex_below d h = grind (arith, nat_tests)

pub digit_small : (c v : ℕ) → Some v ≡ digit_in c → v < 16
digit_small c v e =
    let digit = a_digit (is_ascii_hexdigit c) (digit_value c) v e in
    subst (λ (n : ℕ). n < 16) (sym digit.1) (hex_below c digit.0)

-- `pair` are the two bytes of a word of four digits, of which the first is 0
abbrev pub IsColour : List ℕ → List ℕ → Type 0
IsColour word pair =
    (Some (256 * slice_index pair 0 + slice_index pair 1) ≡ colour_in word)
    × (256 * slice_index pair 0 + slice_index pair 1 < 4096)

abbrev ColourRead : List ℕ → Result (List ℕ) FromHexError → Type 0
ColourRead word bytes = MatchResult bytes (IsColour word) (λ e. None ≡ colour_in word)

colour_read_as : (b c d : ℕ) (red green blue : Option ℕ) → hex_digit_value b ≡ red
    → hex_digit_value c ≡ green
    → hex_digit_value d ≡ blue
    → ColourRead (48 ∷ b ∷ c ∷ d ∷ []) (decode_sized (48 ∷ b ∷ c ∷ d ∷ []) 2)
unfolding decode_pairs
colour_read_as b c d None green blue r g bl =
    rw (read b 1 None r) (sym (no_red (48 ∷ b ∷ c ∷ d ∷ []) (digit_none b r)))
colour_read_as b c d (Some red) None blue r g bl =
    rw (read b 1 (Some red) r, read c 2 None g) (sym (no_green (48 ∷ b ∷ c ∷ d ∷ []) (digit_none c g)))
colour_read_as b c d (Some red) (Some green) None r g bl =
    rw (read b 1 (Some red) r, read c 2 (Some green) g, read d 3 None bl)
    (sym (no_blue (48 ∷ b ∷ c ∷ d ∷ []) (digit_none d bl)))
colour_read_as b c d (Some red) (Some green) (Some blue) r g bl =
    let sum : 256 * (0 + red) + (green * 16 + blue) ≡ 256 * red + 16 * green + blue = omega arith in
    let x = digit_small b red (digit_some b red r) in
    let y = digit_small c green (digit_some c green g) in
    let z = digit_small d blue (digit_some d blue bl) in
    let small : 256 * (0 + red) + (green * 16 + blue) < 4096 = omega (arith, x, y, z) in
    rw (read b 1 (Some red) r, read c 2 (Some green) g, read d 3 (Some blue) bl) (
      ap Some sum ∙ some_colour (48 ∷ b ∷ c ∷ d ∷ []) red green blue refl refl (digit_some b red r)
          (digit_some c green g) (digit_some d blue bl),
      small,
    )

pub colour_read : (word : List ℕ) → length word ≡ 4 → slice_index word 0 ≡ 48
    → ColourRead word (decode_sized word 2)
colour_read [] size zero = absurd (omega arith)
colour_read (a ∷ []) size zero = absurd (omega arith)
colour_read (a ∷ b ∷ []) size zero = absurd (omega arith)
colour_read (a ∷ b ∷ c ∷ []) size zero = absurd (omega arith)
colour_read (a ∷ b ∷ c ∷ d ∷ []) size zero =
    subst (λ (n : ℕ). ColourRead (n ∷ b ∷ c ∷ d ∷ []) (decode_sized (n ∷ b ∷ c ∷ d ∷ []) 2)) (sym zero)
    (colour_read_as b c d (hex_digit_value b) (hex_digit_value c) (hex_digit_value d) refl refl refl)
colour_read (a ∷ b ∷ c ∷ d ∷ e ∷ rest) size zero = absurd (omega arith)

abbrev ok_of : {U : Type 0} → U → Result U FromHexError
ok_of u = Ok u

abbrev err_of : (U : Type 0) → FromHexError → Result U FromHexError
err_of U f = Err f

-- the decoded bytes are in the buffer
pub decoded : {U : Type 0} (bytes : Result (List ℕ) FromHexError) (out : List ℕ) (u t : U)
    (P : List ℕ → Type 0) (Q : Type 0)
    → MatchResult bytes (λ b. (ok_of u ≡ ok_of t) × (out ≡ b)) (λ e. ok_of u ≡ Err e)
    → MatchResult bytes P (λ e. Q)
    → P out
decoded (Ok b) out u t P Q (same, is) holds = subst P (sym is) holds
decoded (Err e) out u t P Q other holds = absurd (cc)

pub not_decoded : {U : Type 0} (bytes : Result (List ℕ) FromHexError) (out : List ℕ) (f : FromHexError)
    (t : U) (P : List ℕ → Type 0) (Q : Type 0)
    → MatchResult bytes (λ b. (err_of U f ≡ ok_of t) × (out ≡ b)) (λ e. err_of U f ≡ Err e)
    → MatchResult bytes P (λ e. Q)
    → Q
not_decoded (Ok b) out f t P Q (other, is) holds = absurd (cc)
not_decoded (Err e) out f t P Q same holds = holds

pub pair_is : (pair : List ℕ) → from_be_bytes w16 pair ≡ 256 * slice_index pair 0 + slice_index pair 1
pair_is pair = omega arith
