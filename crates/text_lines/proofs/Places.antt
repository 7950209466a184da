-- The place of the first element that passes a test.
use Rattle.std.proofs.Common.{◌≡◌, ℕ, ◌≤◌, Bool, List, length, Some, None, arith, ap, ◌∙◌}
use Rattle.std.specs.Prelude.{nat_lt, unwrap_or, Option, not}
use Rattle.std.proofs.Math.Bool.{cond}
use Rattle.std.specs.List.{position_or_len}
use Rattle.std.proofs.lemmas.List.Sums.{prefix_len-le-length}

-- a place that is not in the list is the length of the list
place_or_len : (n size : ℕ) → n ≤ size → unwrap_or (cond (nat_lt n size) (Some n) None) size ≡ n
place_or_len n size le = grind arith

pub place_from : (p : ℕ → Bool) (xs : List ℕ) (r : Option ℕ) (result : ℕ)
    → r ≡ cond (nat_lt (position_or_len p xs) (length xs)) (Some (position_or_len p xs)) None
    → result ≡ unwrap_or r (length xs)
    → result ≡ position_or_len p xs
place_from p xs r result is gives =
    gives
    ∙ (ap (λ (o : Option ℕ). unwrap_or o (length xs)) is
    ∙ place_or_len (position_or_len p xs) (length xs) (prefix_len-le-length (λ x. not (p x)) xs))

pub place_some : (p : ℕ → Bool) (xs : List ℕ) (r : Option ℕ) (end : ℕ)
    → r ≡ cond (nat_lt (position_or_len p xs) (length xs)) (Some (position_or_len p xs)) None
    → r ≡ Some end
    → end ≡ position_or_len p xs
place_some p xs r end is some = grind arith

pub place_none : (p : ℕ → Bool) (xs : List ℕ) (r : Option ℕ)
    → r ≡ cond (nat_lt (position_or_len p xs) (length xs)) (Some (position_or_len p xs)) None
    → r ≡ None
    → length xs ≡ position_or_len p xs
place_none p xs r is none =
    let le : position_or_len p xs ≤ length xs = prefix_len-le-length (λ x. not (p x)) xs in
    grind arith
