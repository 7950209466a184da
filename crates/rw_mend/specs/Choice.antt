-- The mended codeword of a word, chosen from the candidates of its readings.
use Rattle.std.specs.Prelude.{◌≡◌, ℕ, ◌==◌, ◌&&◌, ◌||◌, ◌<◌, Bool, true, false, nat_lt, List, length, count_by, slice_index_or, Option, Some, None}
use Rattle.std.specs.List.{list_all, list_any}
use Rattle.rw_code.specs.Codeword.{differences}
use Rattle.rw_merge.specs.Agreement.{IsAgreed}
use Rattle.rw_mend.specs.declared.choice.WordSource.{WordSource}
use Rattle.rw_mend.specs.declared.choice.WordSource.TheVariants.{Reading, Agreed}
use Rattle.rw_mend.specs.declared.choice.Mended.{Mended}
use Rattle.rw_mend.specs.declared.candidates.Candidate.{Candidate}
use Rattle.rw_mend.specs.declared.candidates.Candidate.TheVariants.{Silent, Lost, Near}

-- whether a candidate is a codeword
abbrev pub is_near : Candidate → Bool
is_near (Near pack distance) = true
is_near candidate = false

-- whether a candidate is this codeword
abbrev pub is_of : List ℕ → Candidate → Bool
is_of codeword (Near pack distance) = differences pack codeword == 0
is_of codeword candidate = false

-- the number of candidates that are this codeword
abbrev pub votes : List Candidate → List ℕ → ℕ
votes candidates codeword = count_by (is_of codeword) candidates

-- Whether a codeword of this distance is at least as good as another candidate: that one is no codeword; or it has a
-- greater distance; or it has the same distance, and is the same codeword or has fewer votes.
abbrev pub stands : List Candidate → List ℕ → ℕ → Candidate → Bool
stands candidates pack distance (Near other more) = nat_lt distance more
    || ((distance == more)
    && ((differences pack other == 0) || nat_lt (votes candidates other) (votes candidates pack)))
stands candidates pack distance candidate = true

-- whether a candidate is a codeword that is at least as good as each of the candidates
abbrev pub is_best : List Candidate → Candidate → Bool
is_best candidates (Near pack distance) = list_all (stands candidates pack distance) candidates
is_best candidates candidate = false

-- the candidate of reading r
abbrev pub candidate_of_reading : List Candidate → ℕ → Candidate
candidate_of_reading candidates r = slice_index_or candidates r Silent

-- Reading r is the first whose candidate is best.
pub record IsFirstBest (candidates : List Candidate) (r : ℕ) : Type 0 where
  pub within : r < length candidates
  pub best : is_best candidates (candidate_of_reading candidates r) ≡ true
  pub first : (k : ℕ) → k < r → is_best candidates (candidate_of_reading candidates k) ≡ false

-- Two candidates agree on a codeword: both words were read, no codeword is near either, and the words agree on this
-- codeword.
abbrev pub AreAgreed : Candidate → Candidate → List ℕ → Type 0
AreAgreed (Lost first) (Lost second) codeword = IsAgreed first second codeword
AreAgreed one other codeword = ⊥

-- Candidates i and j agree on this codeword.
pub record IsPairAgreed (candidates : List Candidate) (i j : ℕ) (codeword : List ℕ) : Type 0 where
  pub before : i < j
  pub within : j < length candidates
  pub agreed : AreAgreed (candidate_of_reading candidates i) (candidate_of_reading candidates j) codeword

-- Two candidates agree on this codeword, and no two agree on another.
pub record IsAgreedAlone (candidates : List Candidate) (codeword : List ℕ) : Type 0 where
  pub one : ℕ
  pub other : ℕ
  pub agreed : IsPairAgreed candidates one other codeword
  pub alone : (i j : ℕ) (another : List ℕ) → IsPairAgreed candidates i j another → another ≡ codeword

-- The candidate is this codeword.
abbrev pub IsOf : List ℕ → Candidate → Type 0
IsOf codeword (Near pack distance) = pack ≡ codeword
IsOf codeword candidate = ⊥

-- This is the mended codeword, with its source. Either reading r is the first whose candidate is best, and the codeword is
-- this candidate. Or no candidate is a codeword, and two candidates agree on this codeword.
abbrev pub IsMendedBy : WordSource → List Candidate → List ℕ → Type 0
IsMendedBy (Reading r) candidates codeword = IsFirstBest candidates r
    × IsOf codeword (candidate_of_reading candidates r)
IsMendedBy Agreed candidates codeword =
    (list_any is_near candidates ≡ false) × IsAgreedAlone candidates codeword

-- This is the result for the candidates of a word: the mended codeword and its source, or None if there is none.
abbrev pub IsMending : List Candidate → Option Mended → Type 0
IsMending candidates (Some mended) = IsMendedBy mended.source candidates mended.pack
IsMending candidates None =
    (source : WordSource) (codeword : List ℕ) → ¬ IsMendedBy source candidates codeword
