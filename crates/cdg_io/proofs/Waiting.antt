-- The waiting bytes at the front of a buffer, and those of them that are written.
use Rattle.std.proofs.Common.{[], zero, suc, None, Some, Ok, Err, Result, append-nil, ◌<◌, refl, ◌≡◌, ℕ, ◌+◌, ◌≤◌, List, ◌++◌, length, take, sym, ap, ◌∙◌, arith, length-take-le, append_assoc}
use Rattle.std.proofs.Math.Seq.{take-append-add, take-append_seam}
use Rattle.std.specs.Io.KnownBytes.{Appends, Keeps, WriteAppends}
use Rattle.std.specs.declared.option.Option.{Option}

-- known bytes to which nothing is added are unchanged
pub no_more : (a b : Option (List ℕ)) → Appends a b [] → Keeps a b
no_more None b p = tt
no_more (Some x) None p = p
no_more (Some x) (Some y) p = p ∙ append-nil x

-- a write that returned no count above 0 wrote nothing
pub nothing_written : {E : Type 0} (a b : Option (List ℕ)) (answer : Result ℕ E) (bytes : List ℕ)
    → WriteAppends a b answer bytes → ((n : ℕ) → 0 < n → answer ≡ Ok n → ⊥)
    → Keeps a b
nothing_written a b (Ok zero) bytes put none = no_more a b put
nothing_written a b (Ok (suc n)) bytes put none = absurd (none (suc n) (omega arith) refl)
nothing_written a b (Err fault) bytes put none = put

-- a piece was written behind the waiting bytes
pub piece_behind : (xs piece rest post : List ℕ) (end : ℕ) → end ≤ length xs
    → take (end + length piece) (take end xs ++ ((piece ++ rest) ++ post)) ≡ take end xs ++ piece
piece_behind xs piece rest post end within =
    let front = take end xs in
    let long : length front ≡ end = length-take-le end xs within in
    ap (λ (k : ℕ). take (k + length piece) (front ++ ((piece ++ rest) ++ post))) (sym long)
    ∙ take-append-add front ((piece ++ rest) ++ post) (length piece)
    ∙ ap (λ (l : List ℕ). front ++ take (length piece) l) (append_assoc piece rest post)
    ∙ ap (λ (l : List ℕ). front ++ l) (take-append_seam piece (rest ++ post))
