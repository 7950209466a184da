-- The words of a space and a digit.
use Rattle.std.proofs.Common.{◌≡◌, ℕ, ◌+◌, ◌-◌, ◌<◌, ◌≤◌, Bool, true, false, ◌==◌, List, [], ◌∷◌, length, get_or, Some, None, refl, ap, ◌∙◌, arith}
use Rattle.std.specs.Char.{is_ascii_digit}
use Rattle.std.specs.declared.option.Option.{Option}
use Rattle.std.proofs.lemmas.Bool.{eqb-true, false≢true}
use Rattle.bit_lists.proofs.Tests.{all_below, all_below-at}
use Rattle.text_lines.specs.Text.{words_in, number_in}
use Rattle.picture_script.specs.ScriptGrammar.{numbers_in}

is_one : Option (List ℕ) → ℕ → Bool
is_one (Some (n ∷ [])) k = n == k
is_one _ k = false

one_is : (found : Option (List ℕ)) (k : ℕ) → is_one found k ≡ true → found ≡ Some (k ∷ [])
unfolding is_one
one_is (Some (n ∷ [])) k test = ap (λ m. Some (m ∷ [])) (eqb-true n k test)
one_is (Some []) k test = absurd (false≢true test)
one_is (Some (n ∷ m ∷ ns)) k test = absurd (false≢true test)
one_is None k test = absurd (false≢true test)

is_read : ℕ → Bool
is_read k = is_one (numbers_in 1 (words_in (32 ∷ (48 + k) ∷ []))) k

test_digits : all_below is_read 10 ≡ true
unfolding all_below is_read words_in numbers_in number_in is_one
test_digits = refl

two : (xs : List ℕ) → 2 ≤ length xs → length xs < 3 → xs ≡ get_or xs 0 0 ∷ get_or xs 1 0 ∷ []
two [] least most = absurd (omega arith)
two (a ∷ []) least most = absurd (omega arith)
two (a ∷ b ∷ []) least most = refl
two (a ∷ b ∷ c ∷ rest) least most = absurd (omega arith)

read_at : (digit : ℕ) → 48 ≤ digit → digit ≤ 57
    → numbers_in 1 (words_in (32 ∷ digit ∷ [])) ≡ Some ((digit - 48) ∷ [])
unfolding is_read
read_at digit least most =
    let back : digit ≡ 48 + (digit - 48) = omega arith in
    ap (λ d. numbers_in 1 (words_in (32 ∷ d ∷ []))) back
    ∙ one_is (numbers_in 1 (words_in (32 ∷ (48 + (digit - 48)) ∷ []))) (digit - 48)
    (all_below-at is_read 10 (digit - 48) test_digits (omega arith))

-- a space and a digit are a list of one number
pub one_digit : (words : List ℕ) → 2 ≤ length words → length words < 3 → get_or words 0 0 ≡ 32
    → is_ascii_digit (get_or words 1 0) ≡ true
    → numbers_in 1 (words_in words) ≡ Some ((get_or words 1 0 - 48) ∷ [])
one_digit words least most blank is =
    let digit = get_or words 1 0 in
    let low : 48 ≤ digit = grind arith in
    let high : digit ≤ 57 = grind arith in
    ap (λ ws. numbers_in 1 (words_in ws)) (two words least most ∙ ap (λ a. a ∷ digit ∷ []) blank)
    ∙ read_at digit low high

-- which can be the number of a colour
pub digit_small : (digit : ℕ) → is_ascii_digit digit ≡ true → digit - 48 < 16
digit_small digit is = grind arith
