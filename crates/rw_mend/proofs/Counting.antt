-- Counts of the elements of a list that pass a test.
use Rattle.std.proofs.Common.{◌≡◌, ◌+◌, Bool, true, false, List, [], ◌∷◌, ◌++◌, arith}
use Rattle.std.specs.Prelude.{count_by}
use Rattle.std.proofs.lemmas.Grind.{common_steps}

pub count_push : {X : Type 0} (p : X → Bool) (xs : List X) (x : X)
    → count_by p (xs ++ x ∷ []) ≡ count_by p xs + count_by p (x ∷ [])
count_push p xs x = grind (arith, common_steps)

pub count_yes : {X : Type 0} (p : X → Bool) (xs : List X) (x : X) → p x ≡ true
    → count_by p (xs ++ x ∷ []) ≡ count_by p xs + 1
count_yes p xs x is = grind (arith, common_steps)

pub count_no : {X : Type 0} (p : X → Bool) (xs : List X) (x : X) → p x ≡ false
    → count_by p (xs ++ x ∷ []) ≡ count_by p xs
count_no p xs x is = grind (arith, common_steps)
