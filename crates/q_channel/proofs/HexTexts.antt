-- Bytes in hexadecimal digits.
use Rattle.std.proofs.Common.{◌≡◌, ℕ, zero, suc, ◌/◌, ◌%◌, ◌<◌, ◌==◌, Bool, true, List, [], ◌∷◌, get_or, refl, ap, ap₂, ◌∙◌, arith}
use Rattle.std.specs.Prelude.{slice_index, Result, Ok, Err, OnOk}
use Rattle.std.specs.Char.{digit_char}
use Rattle.std.proofs.lemmas.Bool.{eqb-true}
use Rattle.bit_lists.specs.Digits.{hex_digits, hex_of}
use Rattle.bit_lists.proofs.Tests.{all_below, all_below-at}
use Rattle.hex.specs.Hex.{encode_lower, encode_with, lower_digits}

same_digit : ℕ → Bool
same_digit k = slice_index lower_digits k == digit_char k

all_same : all_below same_digit 16 ≡ true
unfolding all_below same_digit
all_same = refl

lower_at : (k n : ℕ) → k ≡ n → k < 16 → slice_index lower_digits k ≡ digit_char n
unfolding same_digit
lower_at k n same lt = eqb-true _ _ (all_below-at same_digit 16 k all_same lt) ∙ ap digit_char same

-- the digits of each byte, one after another
pub lower_is_hex : (bytes : List ℕ) → ((k : ℕ) → get_or bytes k 0 < 256) → encode_lower bytes ≡ hex_of bytes
unfolding encode_with
lower_is_hex [] all = refl
lower_is_hex (b ∷ bytes) all =
    let small : b < 256 = all zero in
    ap₂ (λ x xs. x ∷ xs) (lower_at (b / 16) (b / 16 % 16) (omega arith) (omega arith))
    (ap₂ (λ x xs. x ∷ xs) (lower_at (b % 16) (b / 1 % 16) (omega arith) (omega arith))
    (lower_is_hex bytes (λ k. all (suc k))))

pub on_ok : {T E : Type 0} (r : Result T E) (x : T) (P : Type 0) → r ≡ Ok x → OnOk r P → P
on_ok (Ok y) x P same h = h
on_ok (Err e) x P same h = absurd (cc)

pub byte_is_hex : (b : ℕ) → b < 256 → encode_lower (b ∷ []) ≡ hex_digits 2 b
unfolding encode_with
byte_is_hex b small =
    ap₂ (λ x y. x ∷ y ∷ []) (lower_at (b / 16) (b / 16 % 16) (omega arith) (omega arith))
    (lower_at (b % 16) (b / 1 % 16) (omega arith) (omega arith))
