-- The first of several elements with the least number.
use Rattle.std.proofs.Common.{ℕ, suc, ◌≤◌, List, [], ◌∷◌, inl, inr, arith}
use Rattle.std.specs.Prelude.{if◌then◌else◌, nat_lt, All}
use Rattle.std.proofs.lemmas.List.Elements.{All-nil, All-cons}
use Rattle.std.proofs.lemmas.Bool.Decides.{leb_tells}
use Rattle.pack_schedule.specs.PlannedChange.{first_least}

better : {X : Type 0} (number : X → ℕ) (best x : X)
    → (number (if nat_lt (number x) (number best) then x else best) ≤ number best)
    × (number (if nat_lt (number x) (number best) then x else best) ≤ number x)
better number best x = elim (leb_tells (suc (number x)) (number best)) [
  | inl less ↦ rw less.0 (omega (arith, less.1), omega arith)
  | inr more ↦ rw more.0 (omega arith, omega (arith, more.1))
]

pub least-best : {X : Type 0} (number : X → ℕ) (best : X) (xs : List X)
    → number (first_least number best xs) ≤ number best
unfolding first_least
least-best number best [] = omega arith
least-best number best (x ∷ xs) = omega (
  arith,
  least-best number (if nat_lt (number x) (number best) then x else best) xs,
  (better number best x).0,
)

pub least-all : {X : Type 0} (number : X → ℕ) (best : X) (xs : List X)
    → All (λ x. number (first_least number best xs) ≤ number x) xs
unfolding first_least
least-all number best [] = All-nil (λ x. number (first_least number best []) ≤ number x)
least-all number best (x ∷ xs) =
    let next = if nat_lt (number x) (number best) then x else best in
    All-cons (λ y. number (first_least number next xs) ≤ number y) x xs
    (omega (arith, least-best number next xs, (better number best x).1)) (least-all number next xs)
