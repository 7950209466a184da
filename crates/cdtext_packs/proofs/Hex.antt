-- Two hexadecimal digits of a byte.
use Rattle.std.proofs.Common.{◌≡◌, ℕ, ◌/◌, ◌%◌, ◌^◌, ◌<◌, Bool, ◌&&◌, ◌==◌, [], ◌∷◌, Result, Ok, Err, IsOk, OnOk, refl, ap, ◌∙◌}
use Rattle.std.specs.Prelude.{slice_index}
use Rattle.std.specs.Char.{digit_char}
use Rattle.std.proofs.lemmas.Bool.{and_parts, eqb-true}
use Rattle.bit_lists.specs.Digits.{hex_digits}
use Rattle.bit_lists.proofs.Tests.{all_below, all_below-at}
use Rattle.hex.specs.Hex.{lower_digits, encode_with, encode_lower}

has_digits : ℕ → Bool
has_digits b = (slice_index lower_digits (b / 16) == digit_char (b / 16 ^ 1 % 16))
    && (slice_index lower_digits (b % 16) == digit_char (b / 16 ^ 0 % 16))

pub encode_byte : (b : ℕ) → b < 256 → encode_lower (b ∷ []) ≡ hex_digits 2 b
unfolding encode_with all_below has_digits
encode_byte b below =
    let both =
    and_parts (slice_index lower_digits (b / 16) == digit_char (b / 16 ^ 1 % 16))
    (slice_index lower_digits (b % 16) == digit_char (b / 16 ^ 0 % 16))
    (all_below-at has_digits 256 b refl below) in
    ap (λ (d : ℕ). d ∷ slice_index lower_digits (b % 16) ∷ [])
    (eqb-true (slice_index lower_digits (b / 16)) (digit_char (b / 16 ^ 1 % 16)) both.0)
    ∙ ap (λ (d : ℕ). digit_char (b / 16 ^ 1 % 16) ∷ d ∷ [])
    (eqb-true (slice_index lower_digits (b % 16)) (digit_char (b / 16 ^ 0 % 16)) both.1)

pub on_ok : {T E : Type 0} (r : Result T E) (P : Type 0) → IsOk r → OnOk r P → P
on_ok (Ok x) P is p = p
on_ok (Err e) P is p = absurd (cc)
