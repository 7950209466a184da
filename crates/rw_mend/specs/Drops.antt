-- The codewords of a reading that do not count: idle packs where the reading lacks graphics that another reading has, and
-- doubtful codewords where another reading is quiet.
use Rattle.std.specs.Prelude.{◌≡◌, ◌⊎◌, ℕ, ◌<◌, ◌≤◌, Bool, true, false, MatchBool, List, length, count_by, slice_index_or}
use Rattle.rw_mend.specs.Choice.{candidate_of_reading}
use Rattle.rw_mend.specs.Candidates.{is_doubtful_candidate, is_graphics_candidate, is_idle_candidate, is_quiet_candidate}
use Rattle.rw_mend.specs.Words.{given_at}
use Rattle.rw_mend.specs.declared.candidates.Candidate.{Candidate}
use Rattle.rw_mend.specs.declared.candidates.Candidate.TheVariants.{Silent}

-- Some reading has graphics at word m.
pub record HasGraphics (programs : List (List ℕ)) (m : ℕ) : Type 0 where
  pub reading : ℕ
  pub within : reading < length programs
  pub graphics : is_graphics_candidate (given_at programs reading m) ≡ true

-- Reading r misses graphics at word m: it has the idle pack, and some reading has graphics.
pub record Misses (programs : List (List ℕ)) (r m : ℕ) : Type 0 where
  pub idle : is_idle_candidate (given_at programs r m) ≡ true
  pub graphics : HasGraphics programs m

-- Word k is word n or word m, or lies between them.
abbrev pub IsBetween : ℕ → ℕ → ℕ → Type 0
IsBetween n m k = ((n ≤ k) × (k ≤ m)) ⊎ ((m ≤ k) × (k ≤ n))

-- Reading r lacks graphics at word n of `words` words: it misses graphics at some word, and is quiet from there to n.
pub record Lacks (words : ℕ) (programs : List (List ℕ)) (r n : ℕ) : Type 0 where
  pub word : ℕ
  pub within : word < words
  pub quiet : (k : ℕ) → k < words → IsBetween n word k → is_quiet_candidate (given_at programs r k) ≡ true
  pub misses : Misses programs r word

-- Reading r lacks graphics at word n, and has the idle pack there.
pub record IsLacking (words : ℕ) (programs : List (List ℕ)) (r n : ℕ) : Type 0 where
  pub idle : is_idle_candidate (given_at programs r n) ≡ true
  pub lacks : Lacks words programs r n

-- Reading r has a doubtful codeword at word n, and some reading is quiet there.
pub record IsDoubted (programs : List (List ℕ)) (r n : ℕ) : Type 0 where
  pub doubtful : is_doubtful_candidate (given_at programs r n) ≡ true
  pub reading : ℕ
  pub within : reading < length programs
  pub quiet : is_quiet_candidate (given_at programs reading n) ≡ true

-- The codeword of reading r at word n does not count.
abbrev pub IsDropped : ℕ → List (List ℕ) → ℕ → ℕ → Type 0
IsDropped words programs r n = IsLacking words programs r n ⊎ IsDoubted programs r n

-- This is the candidate of reading r at word n: nothing if its codeword does not count, or else what it has there.
abbrev pub IsSaid : ℕ → List (List ℕ) → ℕ → ℕ → Candidate → Type 0
IsSaid words programs n r candidate = (IsDropped words programs r n × (candidate ≡ Silent))
    ⊎ ((¬ IsDropped words programs r n) × (candidate ≡ given_at programs r n))

-- These are the candidates of all readings at word n.
pub record AreCandidates (words : ℕ) (programs : List (List ℕ)) (n : ℕ)
    (candidates : List Candidate) : Type 0 where
  pub count : length candidates ≡ length programs
  pub each : (r : ℕ) → r < length programs → IsSaid words programs n r (candidate_of_reading candidates r)

-- The codeword of reading r does not count at `count` of the first n words. `marks` says at which.
pub record IsDropCount (words : ℕ) (programs : List (List ℕ)) (r n count : ℕ) : Type 0 where
  pub marks : List Bool
  pub size : length marks ≡ n
  pub each : (k : ℕ) → k < n
      → MatchBool (slice_index_or marks k false) (IsDropped words programs r k)
      (¬ IsDropped words programs r k)
  pub is : count ≡ count_by (λ mark. mark) marks

-- These are the counts of `IsDropCount` for each reading. The counts behind them are 0.
pub record AreDropCounts (words : ℕ) (programs : List (List ℕ)) (n : ℕ) (counts : List ℕ) : Type 0 where
  pub each : (r : ℕ) → r < length programs
      → IsDropCount words programs r n (slice_index_or counts r 0)
  pub others : (r : ℕ) → length programs ≤ r → slice_index_or counts r 0 ≡ 0
