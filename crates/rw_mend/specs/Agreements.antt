-- What is known of the codewords on which pairs of readings agree, after some of the pairs.
use Rattle.std.specs.Prelude.{◌≡◌, ◌≢◌, ◌⊎◌, ℕ, ◌<◌, List}
use Rattle.rw_mend.specs.Choice.{IsPairAgreed}
use Rattle.rw_mend.specs.declared.agreements.Agreements.{Agreements}
use Rattle.rw_mend.specs.declared.agreements.Agreements.TheVariants.{Nothing, Alone, Several}
use Rattle.rw_mend.specs.declared.candidates.Candidate.{Candidate}

-- The pair i, j comes before the pair `one`, `other`.
abbrev pub IsEarlier : ℕ → ℕ → ℕ → ℕ → Type 0
IsEarlier one other i j = (j < other) ⊎ ((j ≡ other) × (i < one))

-- Two pairs agree on different codewords.
pub record DiffersSomewhere (candidates : List Candidate) : Type 0 where
  pub i : ℕ
  pub j : ℕ
  pub one : List ℕ
  pub one_is : IsPairAgreed candidates i j one
  pub k : ℕ
  pub l : ℕ
  pub other : List ℕ
  pub other_is : IsPairAgreed candidates k l other
  pub differ : one ≢ other

-- A pair agrees on this codeword, and no pair before the pair `one`, `other` agrees on another codeword.
pub record IsAloneBefore (candidates : List Candidate) (one other : ℕ) (codeword : List ℕ) : Type 0 where
  pub first : ℕ
  pub second : ℕ
  pub is : IsPairAgreed candidates first second codeword
  pub alone : (i j : ℕ) (another : List ℕ) → IsEarlier one other i j → IsPairAgreed candidates i j another
      → another ≡ codeword

-- The agreements are those of the pairs before the pair `one`, `other`.
abbrev pub ArePairAgreements : List Candidate → ℕ → ℕ → Agreements → Type 0
ArePairAgreements candidates one other Nothing = (i j : ℕ) (codeword : List ℕ) → IsEarlier one other i j
    → ¬ IsPairAgreed candidates i j codeword
ArePairAgreements candidates one other (Alone pack) = IsAloneBefore candidates one other pack
ArePairAgreements candidates one other Several = DiffersSomewhere candidates
