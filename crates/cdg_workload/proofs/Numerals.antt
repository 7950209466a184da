-- Numbers that are written and read back.
use Rattle.std.proofs.Common.{◌≡◌, ℕ, ◌+◌, ◌%◌, ◌^◌, ◌<◌, ◌≤◌, true, ◌&&◌, cond, nat_le, List, [], ◌∷◌, length, Some, None, decimal, refl, ap, ◌∙◌, lit<, arith}
use Rattle.std.specs.Char.{is_ascii_digit}
use Rattle.std.specs.List.{list_all}
use Rattle.std.specs.Str.Parse.{digits_value}
use Rattle.std.proofs.lemmas.Bool.{and_from, le-leb, leb-true, and_parts}
use Rattle.std.proofs.lemmas.Fmt.{decimal_by_steps, decimal_is_IsNumeral, length-decimal-le, decimal_nonempty}
use Rattle.std.proofs.lemmas.List.Folds.{list_all-append}
use Rattle.text_lines.specs.Text.{number_in}
use Rattle.cdg_workload.proofs.Splitting.{all_from}

digit_is : (n : ℕ) → n < 10 → is_ascii_digit (48 + n) ≡ true
digit_is n lt = and_from (nat_le 48 (48 + n)) (nat_le (48 + n) 57) (le-leb 48 (48 + n) (omega arith))
    (le-leb (48 + n) 57 (omega arith))

digits_are : (n : ℕ) → n < 2 ^ 64 → list_all is_ascii_digit (decimal n) ≡ true
digits_are n lt =
    decimal_by_steps (λ n ds. list_all is_ascii_digit ds ≡ true)
    (λ n one. and_from (is_ascii_digit (48 + n)) true (digit_is n one) refl)
    (λ n ds from so_far.
    list_all-append is_ascii_digit ds ((48 + n % 10) ∷ [])
    ∙ and_from (list_all is_ascii_digit ds) (list_all is_ascii_digit ((48 + n % 10) ∷ [])) so_far
    (and_from (is_ascii_digit (48 + n % 10)) true (digit_is (n % 10) (omega arith)) refl))
    n lt

graphic_digits : (ds : List ℕ) → list_all is_ascii_digit ds ≡ true → all_from 33 ds ≡ true
graphic_digits [] all = refl
graphic_digits (d ∷ ds) all =
    let (first, others) = and_parts (is_ascii_digit d) (list_all is_ascii_digit ds) all in
    let from : 48 ≤ d = leb-true 48 d (and_parts (nat_le 48 d) (nat_le d 57) first).0 in
    and_from (nat_le 33 d) (all_from 33 ds) (le-leb 33 d (omega arith)) (graphic_digits ds others)

small : (n : ℕ) → n < 1000 → n < 2 ^ 64
small n lt = let below : n < 18446744073709551616 = omega (arith, lt) in below

pub decimal_graphic : (n : ℕ) → n < 1000 → all_from 33 (decimal n) ≡ true
decimal_graphic n lt = graphic_digits (decimal n) (digits_are n (small n lt))

pub decimal_some : (n : ℕ) → n < 1000 → 0 < length (decimal n)
decimal_some n lt = decimal_nonempty n (small n lt)

pub decimal_short : (n : ℕ) → n < 1000 → length (decimal n) ≤ 3
decimal_short n lt = length-decimal-le 3 n (lit< tt) lt (small n lt)

pub decimal_of_two : (n : ℕ) → n < 100 → length (decimal n) ≤ 2
decimal_of_two n lt = length-decimal-le 2 n (lit< tt) lt (small n (omega (arith, lt)))

pub decimal_of_one : (n : ℕ) → n < 10 → length (decimal n) ≤ 1
decimal_of_one n lt = length-decimal-le 1 n (lit< tt) lt (small n (omega (arith, lt)))

pub number_of_decimal : (n : ℕ) → n < 1000 → number_in 1 3 (decimal n) ≡ Some n
unfolding number_in
number_of_decimal n lt =
    let fits = small n lt in
    let value : digits_value 10 (decimal n) ≡ n = (decimal_is_IsNumeral n fits).1 in
    let test : (nat_le 1 (length (decimal n)) && nat_le (length (decimal n)) 3 && list_all is_ascii_digit
    (decimal n)) ≡ true =
    and_from (nat_le 1 (length (decimal n)) && nat_le (length (decimal n)) 3)
    (list_all is_ascii_digit (decimal n))
    (and_from (nat_le 1 (length (decimal n))) (nat_le (length (decimal n)) 3)
    (le-leb 1 (length (decimal n)) (decimal_some n lt))
    (le-leb (length (decimal n)) 3 (length-decimal-le 3 n (lit< tt) lt fits)))
    (digits_are n fits) in
    ap (λ t. cond t (Some (digits_value 10 (decimal n))) None) test ∙ ap (λ v. Some v) value
