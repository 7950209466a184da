-- A colour in hexadecimal digits.
use Rattle.std.proofs.Common.{◌≡◌, ℕ, ◌/◌, ◌%◌, ◌<◌, ◌==◌, Bool, true, [], ◌∷◌, refl, ap, ap₂, ◌∙◌, arith}
use Rattle.std.specs.Prelude.{slice_index, Result, Ok, Err, OnOk}
use Rattle.std.specs.Char.{digit_char}
use Rattle.std.proofs.lemmas.Bool.{eqb-true}
use Rattle.bit_lists.specs.Digits.{hex_digits}
use Rattle.bit_lists.proofs.Tests.{all_below, all_below-at}
use Rattle.hex.specs.Hex.{encode_lower, encode_with, lower_digits}

same_digit : ℕ → Bool
same_digit k = slice_index lower_digits k == digit_char k

all_same : all_below same_digit 16 ≡ true
unfolding all_below same_digit
all_same = refl

lower_is : (k : ℕ) → k < 16 → slice_index lower_digits k ≡ digit_char k
unfolding same_digit
lower_is k lt = eqb-true _ _ (all_below-at same_digit 16 k all_same lt)

lower_at : (k n : ℕ) → k ≡ n → k < 16 → slice_index lower_digits k ≡ digit_char n
lower_at k n same lt = lower_is k lt ∙ ap digit_char same

-- two bytes, the high one first
pub two_bytes : (high low colour : ℕ) → high ≡ colour / 256 → low ≡ colour % 256 → colour < 65536
    → encode_lower (high ∷ low ∷ []) ≡ hex_digits 4 colour
unfolding encode_with
two_bytes high low colour h l small =
    ap₂ (λ x xs. x ∷ xs) (lower_at (high / 16) (colour / 4096 % 16) (omega arith) (omega arith))
    (ap₂ (λ x xs. x ∷ xs) (lower_at (high % 16) (colour / 256 % 16) (omega arith) (omega arith))
    (ap₂ (λ x xs. x ∷ xs) (lower_at (low / 16) (colour / 16 % 16) (omega arith) (omega arith))
    (ap (λ x. x ∷ []) (lower_at (low % 16) (colour / 1 % 16) (omega arith) (omega arith)))))

pub on_ok : {T E : Type 0} (r : Result T E) (x : T) (P : Type 0) → r ≡ Ok x → OnOk r P → P
on_ok (Ok y) x P same h = h
on_ok (Err e) x P same h = absurd (cc)
