-- The last element that passes a test, if all elements that pass come first.
use Rattle.std.proofs.Common.{◌≡◌, ℕ, ◌-◌, ◌≤◌, ◌<◌, true, false, Bool, List, length, get_or, Some, None, ap, ◌∙◌, arith}
use Rattle.std.specs.Prelude.{reverse, find, slice_get}
use Rattle.std.specs.List.{position_or_len}
use Rattle.std.specs.List.Sorted.{IsPartitionPoint}
use Rattle.std.proofs.lemmas.List.{get_or-reverse, length-reverse}
use Rattle.std.proofs.lemmas.List.Folds.{find_at}
use Rattle.std.proofs.lemmas.List.Sums.{position_or_len_is}
use Rattle.std.proofs.lemmas.Option.{slice_get-get_or, slice_get_past}

place_in_reverse : {X : Type 0} (p : X → Bool) (xs : List X) (n : ℕ) (d : X)
    → IsPartitionPoint (λ y. p y ≡ true) (λ y. p y ≡ false) xs n
    → n ≤ length xs → position_or_len p (reverse xs) ≡ length xs - n
place_in_reverse p xs n d point le =
    let size = length-reverse xs in
    position_or_len_is p (reverse xs) (length xs - n) d (omega (arith, size))
    (λ k lt.
    ap p (get_or-reverse xs k d (omega arith)) ∙ point.1 (length xs - 1 - k) d (omega arith) (omega arith))
    (λ lt. ap p (get_or-reverse xs (length xs - n) d (omega (arith, size)))
    ∙ point.0 (length xs - 1 - (length xs - n)) d (omega arith) (omega (arith, size)))

pub find_last : {X : Type 0} (p : X → Bool) (xs : List X) (n : ℕ) (d : X)
    → IsPartitionPoint (λ y. p y ≡ true) (λ y. p y ≡ false) xs n
    → 0 < n → n ≤ length xs → find p (reverse xs) ≡ Some (get_or xs (n - 1) d)
find_last p xs n d point low le =
    let size = length-reverse xs in
    let index : length xs - 1 - (length xs - n) ≡ n - 1 = omega arith in
    find_at p (reverse xs) ∙ (ap (slice_get (reverse xs)) (place_in_reverse p xs n d point le)
    ∙ (slice_get-get_or (reverse xs) (length xs - n) d (omega (arith, size))
    ∙ ap Some (get_or-reverse xs (length xs - n) d (omega arith) ∙ ap (λ i. get_or xs i d) index)))

pub find_last_none : {X : Type 0} (p : X → Bool) (xs : List X) (n : ℕ) (d : X)
    → IsPartitionPoint (λ y. p y ≡ true) (λ y. p y ≡ false) xs n
    → n ≡ 0 → find p (reverse xs) ≡ None
find_last_none p xs n d point none =
    let size = length-reverse xs in
    find_at p (reverse xs)
    ∙ (ap (slice_get (reverse xs)) (place_in_reverse p xs n d point (omega arith))
    ∙ slice_get_past (reverse xs) (length xs - n) (omega (arith, size)))
