-- One more decimal digit.
use Rattle.std.proofs.Common.{add-one, ◌≡◌, ℕ, ◌+◌, ◌-◌, ◌*◌, ◌^◌, ◌<◌, ◌≤◌, true, List, length, take, get_or, arith, sym, ◌∙◌, lit<}
use Rattle.std.specs.Char.{is_ascii_digit, digit_value}
use Rattle.std.specs.List.{list_all}
use Rattle.std.specs.Str.Parse.{digits_value}
use Rattle.std.proofs.Math.Nat.{pow-le-pow_right, pow-suc}
use Rattle.std.proofs.lemmas.Int.Digits.{digits_value_more}
use Rattle.std.proofs.lemmas.List.Folds.{list_all_more}

value_of_digit : (c : ℕ) → 48 ≤ c → c ≤ 57 → digit_value c ≡ c - 48
value_of_digit c low high = grind arith

pub value_more : (word : List ℕ) (i value digit : ℕ) → i < length word → 48 ≤ get_or word i 0
    → get_or word i 0 ≤ 57 → digit ≡ get_or word i 0 - 48
    → value ≡ digits_value 10 (take i word) → 10 * value + digit ≡ digits_value 10 (take (i + 1) word)
value_more word i value digit lt low high is at =
    let more = digits_value_more 10 word i lt in
    let one : digit_value (get_or word i 0) ≡ digit = value_of_digit (get_or word i 0) low high ∙ sym is in
    omega (arith, more, one, at)

pub bound_more : (i value digit : ℕ) → value < 10 ^ i → digit ≤ 9 → 10 * value + digit < 10 ^ (i + 1)
bound_more i value digit lt le =
    let step : 10 ^ (i + 1) ≡ 10 ^ i * 10 = rw add-one (pow-suc 10 i) in
    omega (arith, step)

pub digits_more : (word : List ℕ) (i : ℕ) → i < length word → is_ascii_digit (get_or word i 0) ≡ true
    → list_all is_ascii_digit (take i word) ≡ true
    → list_all is_ascii_digit (take (i + 1) word) ≡ true
digits_more word i lt one all = grind (arith, list_all_more is_ascii_digit word i 0 lt)

pub power_bound : (i most : ℕ) → i ≤ most → 10 ^ i ≤ 10 ^ most
power_bound i most le = pow-le-pow_right (lit< tt) le

pub short_bound : (i value : ℕ) → i ≤ 8 → value < 10 ^ i → value < 100000000
short_bound i value le lt = omega (arith, power_bound i 8 le)
