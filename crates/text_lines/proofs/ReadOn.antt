-- Reading one more line, and the end.
use Rattle.std.proofs.Common.{◌≡◌, ℕ, ◌+◌, List, [], ◌∷◌, Ok, Err, refl, ap}
use Rattle.std.specs.declared.result.Result.{Result}
use Rattle.text_lines.specs.Reading.{at_line, read_on}

module _ {Said Whole Why : Type 0} (step : Said → List ℕ → Result Said Why) (end_of : Said → Result Whole Why)
  where
    pub read_on-taken : (number : ℕ) (said next : Said) (line : List ℕ) (rest : List (List ℕ))
        → step said line ≡ Ok next
        → read_on step end_of number said (line ∷ rest) ≡ read_on step end_of (number + 1) next rest
    unfolding read_on
    read_on-taken number said next line rest is =
        ap (λ r. elim r as (λ q. Result Whole (ℕ × Why))
        [ Ok n ↦ read_on step end_of (number + 1) n rest | Err why ↦ Err (number, why) ]) is

    pub read_on-refused : (number : ℕ) (said : Said) (why : Why) (line : List ℕ) (rest : List (List ℕ))
        → step said line ≡ Err why
        → read_on step end_of number said (line ∷ rest) ≡ Err (number, why)
    unfolding read_on
    read_on-refused number said why line rest is =
        ap (λ r. elim r as (λ q. Result Whole (ℕ × Why))
        [ Ok n ↦ read_on step end_of (number + 1) n rest | Err w ↦ Err (number, w) ]) is

    pub read_on-end : (number : ℕ) (said : Said)
        → read_on step end_of number said [] ≡ at_line number (end_of said)
    unfolding read_on
    read_on-end number said = refl
