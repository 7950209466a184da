-- Lists whose elements are written one after another.
use Rattle.std.proofs.Common.{◌≡◌, ◌≢◌, ◌+◌, ◌-◌, ◌<◌, ◌≤◌, ℕ, List, below_more, drop, get_or, get_or-set_other, get_or-set_same, length, set, ap, subst, sym, ◌∙◌, arith}
use Rattle.std.proofs.lemmas.List.{drop-drop}

-- lists that agree from one place agree from each later place
pub rest_on : {X : Type 0} (n m : ℕ) (xs ys : List X) → n ≤ m → drop n xs ≡ drop n ys → drop m xs ≡ drop m ys
rest_on {X} n m xs ys le same =
    let parts : n + (m - n) ≡ m = omega (arith, le) in
    ap (λ k. drop k xs) (sym parts)
    ∙ sym (drop-drop (m - n) n xs)
    ∙ ap (drop (m - n)) same
    ∙ drop-drop (m - n) n ys
    ∙ ap (λ k. drop k ys) parts

-- a fact about the first elements still holds, and also for one more element, after this element is written
pub more_written : {X : Type 0} (P : ℕ → X → Type 0) (xs : List X) (n : ℕ) (x d : X) → n < length xs
    → ((k : ℕ) → k < n → P k (get_or xs k d)) → P n x → (k : ℕ) → k < n + 1 → P k (get_or (set xs n x) k d)
more_written P xs n x d fits before one =
    below_more (λ k. P k (get_or (set xs n x) k d)) n
    (λ k less. let ne : k ≢ n = omega (arith, less) in
    subst (P k) (sym (get_or-set_other xs n k x d ne)) (before k less))
    (subst (P n) (sym (get_or-set_same xs n x d fits)) one)
