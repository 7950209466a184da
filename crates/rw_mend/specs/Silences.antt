-- Whether a reading is quiet, word after word.
use Rattle.std.specs.Prelude.{◌≡◌, ℕ, ◌-◌, ◌<◌, ◌≤◌, ◌&&◌, ◌||◌, Bool, true, false, MatchBool, if◌then◌else◌, List, length, slice_index_or}
use Rattle.rw_mend.specs.Drops.{HasGraphics, Lacks, Misses}
use Rattle.rw_mend.specs.Candidates.{is_doubtful_candidate, is_idle_candidate, is_quiet_candidate}
use Rattle.rw_mend.specs.Words.{given_at}
use Rattle.rw_mend.specs.declared.silences.Silence.{Silence}
use Rattle.rw_mend.specs.declared.candidates.Candidate.{Candidate}
use Rattle.rw_mend.specs.declared.candidates.Candidate.TheVariants.{Silent}

-- Reading r is quiet from word n to a word at which it misses graphics.
pub record WillMiss (words : ℕ) (programs : List (List ℕ)) (r n : ℕ) : Type 0 where
  pub word : ℕ
  pub from : n ≤ word
  pub within : word < words
  pub quiet : (k : ℕ) → n ≤ k → k ≤ word → is_quiet_candidate (given_at programs r k) ≡ true
  pub misses : Misses programs r word

-- The silence says whether reading r is quiet at the last of the first n words, and whether it then lacks graphics there.
pub record IsSilence (words : ℕ) (programs : List (List ℕ)) (r n : ℕ) (silence : Silence) : Type 0 where
  pub some : silence.quiet ≡ true → 0 < n
  pub quiet : silence.quiet ≡ true → is_quiet_candidate (given_at programs r (n - 1)) ≡ true
  pub loud : silence.quiet ≡ false → 0 < n → is_quiet_candidate (given_at programs r (n - 1)) ≡ false
  pub lacks : silence.quiet ≡ true
      → MatchBool silence.lacks (Lacks words programs r (n - 1)) (¬ Lacks words programs r (n - 1))

-- a default silence
abbrev pub no_silence : Silence
no_silence = record { quiet = false; lacks = false }

-- These are the silences of all readings after the first n words.
pub record AreSilences (words : ℕ) (programs : List (List ℕ)) (n : ℕ) (silences : List Silence) : Type 0 where
  pub each : (r : ℕ) → r < length programs
      → IsSilence words programs r n (slice_index_or silences r no_silence)

-- No reading has graphics from word n to before word `end`.
pub record IsCalm (programs : List (List ℕ)) (n end : ℕ) : Type 0 where
  pub none : (m : ℕ) → n ≤ m → m < end → ¬ HasGraphics programs m

-- whether the codeword of a reading does not count: the idle pack if it lacks graphics, or a doubtful codeword if some
-- reading is quiet
abbrev pub is_left : Bool → Silence → Candidate → Bool
is_left some_quiet silence given =
    (silence.lacks && is_idle_candidate given) || (some_quiet && is_doubtful_candidate given)

-- the candidate of a reading: nothing if its codeword does not count, or else what it has
abbrev pub said_after : Bool → Silence → Candidate → Candidate
said_after some_quiet silence given = if is_left some_quiet silence given then Silent else given
