-- The choice of the instruction that a change begins with.
use Rattle.std.proofs.Common.{◌≡◌, ℕ, zero, suc, ◌+◌, ◌<◌, ◌≤◌, Bool, true, false, List, [], ◌∷◌, ◌++◌, map, length, refl, ap, sym, ◌∙◌, arith}
use Rattle.std.specs.Prelude.{Option, Some, None, if◌then◌else◌, nat_lt}
use Rattle.std.proofs.lemmas.Bool.Decides.{nat_tests}
use Rattle.std.proofs.lemmas.List.FromFn.{map-range_with_len_more}
use Rattle.bit_lists.specs.Counting.{below}
use Rattle.picture_script.specs.Script.{Drawing}
use Rattle.pack_schedule.specs.Change.{settings}
use Rattle.pack_schedule.specs.PlannedChange.{planned_length, tile_steps, preferred, first_least, chosen_start}

-- one more element at the end
least-snoc : {X : Type 0} (number : X → ℕ) (best : X) (xs : List X) (x : X)
    → first_least number best (xs ++ x ∷ [])
    ≡ (if nat_lt (number x) (number (first_least number best xs)) then x else first_least number best xs)
unfolding first_least
least-snoc number best [] x = refl
least-snoc number best (y ∷ xs) x =
    least-snoc number (if nat_lt (number y) (number best) then y else best) xs x

one_sum : (n : ℕ) → 0 + n ≡ n
one_sum n = omega arith

-- one more colour
one_more : (f : Option ℕ → ℕ) (best old : Option ℕ) (c : ℕ) → old ≡ first_least f best (map Some (below c))
    → first_least f best (map Some (below (c + 1))) ≡ (if nat_lt (f (Some c)) (f old) then Some c else old)
one_more f best old c is =
    ap (first_least f best) (map-range_with_len_more Some 0 c c (one_sum c))
    ∙ least-snoc f best (map Some (below c)) (Some c)
    ∙ ap (λ (o : Option ℕ). if nat_lt (f (Some c)) (f o) then Some c else o) (sym is)

pub colour_taken : (f : Option ℕ → ℕ) (best old : Option ℕ) (c : ℕ)
    → old ≡ first_least f best (map Some (below c)) → f (Some c) < f old
    → Some c ≡ first_least f best (map Some (below (c + 1)))
colour_taken f best old c is less =
    let test : nat_lt (f (Some c)) (f old) ≡ true = grind (arith, nat_tests) in
    sym (one_more f best old c is ∙ ap (λ (b : Bool). if b then Some c else old) test)

pub colour_left : (f : Option ℕ → ℕ) (best old : Option ℕ) (c : ℕ)
    → old ≡ first_least f best (map Some (below c)) → f old ≤ f (Some c)
    → old ≡ first_least f best (map Some (below (c + 1)))
colour_left f best old c is no_less =
    let test : nat_lt (f (Some c)) (f old) ≡ false = grind (arith, nat_tests) in
    sym (one_more f best old c is ∙ ap (λ (b : Bool). if b then Some c else old) test)

pub is_chosen : (script : List Drawing) (k c : ℕ) (start : Option ℕ) → c ≡ 16
    → start ≡ first_least (planned_length script k) (preferred k) (map Some (below c))
    → start ≡ chosen_start script k
unfolding chosen_start
is_chosen script k c start h is =
    is ∙ ap (λ n. first_least (planned_length script k) (preferred k) (map Some (below n))) h

pub from_colour : (script : List Drawing) (k c n : ℕ)
    → n ≡ 1 + length (settings script k) + tile_steps script k (Some c)
    → n ≡ planned_length script k (Some c)
unfolding planned_length
from_colour script k c n h = h

pub from_picture : (script : List Drawing) (k n : ℕ)
    → n ≡ length (settings script k) + tile_steps script k None
    → n ≡ planned_length script k None
unfolding planned_length
from_picture script k n h = omega (arith, h)

pub first_chosen : (script : List Drawing) (k : ℕ) → k ≡ 0
    → Some 0 ≡ first_least (planned_length script k) (preferred k) (map Some (below 0))
unfolding first_least
first_chosen script zero first = refl
first_chosen script (suc k) first = absurd (omega arith)

pub later_chosen : (script : List Drawing) (k : ℕ) → 0 < k
    → None ≡ first_least (planned_length script k) (preferred k) (map Some (below 0))
unfolding first_least
later_chosen script zero later = absurd (omega arith)
later_chosen script (suc k) later = refl
