-- The codeword on which two readings of a word agree.
use Rattle.std.specs.Prelude.{ℕ, ◌+◌, ◌*◌, ◌≤◌, ◌==◌, if◌then◌else◌, List, [], ◌∷◌, MatchOption, Option, Some, None}
use Rattle.rw_code.specs.Codeword.{IsCodeword, differences}

-- the number of positions at which two readings are equal and differ from a word
unfoldable pub equally_wrong : List ℕ → List ℕ → List ℕ → ℕ
equally_wrong [] ys zs = 0
equally_wrong (x ∷ xs) [] zs = 0
equally_wrong (x ∷ xs) (y ∷ ys) [] = 0
equally_wrong (x ∷ xs) (y ∷ ys) (z ∷ zs) =
    (if x == y then (if x == z then 0 else 1) else 0) + equally_wrong xs ys zs

-- The codeword is agreed: twice the number of symbols in which both readings are equal and wrong, plus the number of
-- symbols in which they differ, is at most four.
pub record IsAgreed (first second codeword : List ℕ) : Type 0 where
  pub is_codeword : IsCodeword codeword
  pub few : 2 * equally_wrong first second codeword + differences first second ≤ 4

-- The value is the agreed codeword, or None if there is none.
abbrev pub GivesAgreed : List ℕ → List ℕ → Option (List ℕ) → Type 0
GivesAgreed first second given = MatchOption given ((codeword : List ℕ) → ¬ IsAgreed first second codeword)
    (λ codeword. IsAgreed first second codeword)

-- This is the result for two readings of a word: the agreed codeword, or None if there is none.
abbrev pub IsAgreement : List ℕ → List ℕ → Option (List ℕ) → Type 0
IsAgreement first second (Some codeword) = IsAgreed first second codeword
IsAgreement first second None = (codeword : List ℕ) → ¬ IsAgreed first second codeword
