-- The error-free words of readings that are not in the output.
use Rattle.std.specs.Prelude.{◌≡◌, ◌==◌, ◌&&◌, ℕ, ◌<◌, Bool, false, not, List, [], ◌∷◌, length, count_by, slice_index_or, Option, Some, None}
use Rattle.rw_code.specs.Codeword.{differences}
use Rattle.rw_mend.specs.Choice.{candidate_of_reading}
use Rattle.rw_mend.specs.declared.choice.Mended.{Mended}
use Rattle.rw_mend.specs.declared.candidates.Candidate.{Candidate}
use Rattle.rw_mend.specs.declared.candidates.Candidate.TheVariants.{Near}

-- whether a codeword is the mended codeword
abbrev pub is_found : Option Mended → List ℕ → Bool
is_found (Some mended) codeword = differences mended.pack codeword == 0
is_found None codeword = false

-- whether a candidate is lost: it is a codeword with no wrong symbol, and the mended codeword is another or there is none
abbrev pub is_lost : Option Mended → Candidate → Bool
is_lost found (Near pack distance) = (distance == 0) && not (is_found found pack)
is_lost found candidate = false

-- for each word, whether the candidate of reading r is lost
abbrev pub losses_of : ℕ → List (List Candidate) → List (Option Mended) → List Bool
losses_of r (candidates ∷ said) (f ∷ found) =
    is_lost f (candidate_of_reading candidates r) ∷ losses_of r said found
losses_of r said found = []

-- These are the numbers of lost words of each reading.
pub record AreLosses (lost : List ℕ) (said : List (List Candidate))
    (found : List (Option Mended)) : Type 0 where
  pub each : (r : ℕ) → r < 254 → slice_index_or lost r 0 ≡ count_by (λ lost. lost) (losses_of r said found)
  pub kept : length lost ≡ 254
