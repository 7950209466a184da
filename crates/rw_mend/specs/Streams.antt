-- Readings of a stream, mended word by word.
use Rattle.std.specs.Prelude.{◌≡◌, ◌==◌, ℕ, ◌-◌, ◌*◌, ◌/◌, ◌<◌, ◌≤◌, Bool, true, false, if◌then◌else◌, List, [], ◌∷◌, ◌++◌, length, drop, flat_map, count_by, slice_index_or, is_none, Option, Some, None}
use Rattle.raw_subcode.specs.Sizes.{block_bytes, symbols_a_slot}
use Rattle.rw_code.specs.Packs.{idle_pack}
use Rattle.rw_interleave.specs.Interleave.{whole_packs}
use Rattle.rw_mend.specs.Choice.{IsMending, votes}
use Rattle.rw_mend.specs.Drops.{AreCandidates}
use Rattle.rw_mend.specs.Words.{program_of}
use Rattle.rw_mend.specs.declared.choice.Mended.{Mended}
use Rattle.rw_mend.specs.declared.choice.WordSource.{WordSource}
use Rattle.rw_mend.specs.declared.choice.WordSource.TheVariants.{Reading, Agreed}
use Rattle.rw_mend.specs.declared.streams.MendCounts.{MendCounts}
use Rattle.rw_mend.specs.declared.candidates.Candidate.{Candidate}
use Rattle.rw_mend.specs.declared.ways.Way.{Way}
use Rattle.rw_mend.specs.declared.ways.Way.TheVariants.{Both, First, Second, Together}

-- These are the candidates of the readings at each word of some programs, and the result for each word.
pub record AreMended (words : ℕ) (programs : List (List ℕ)) (said : List (List Candidate))
    (found : List (Option Mended)) : Type 0 where
  pub said_count : length said ≡ words
  pub count : length found ≡ words
  pub candidates : (n : ℕ) → n < words → AreCandidates words programs n (slice_index_or said n [])
  pub each : (n : ℕ) → n < words → IsMending (slice_index_or said n []) (slice_index_or found n None)

-- the symbols of a mended codeword, or zeros if there is none
abbrev pub mended_bytes : Option Mended → List ℕ
mended_bytes (Some mended) = mended.pack
mended_bytes None = idle_pack

-- the text of the results, 24 bytes for each word
abbrev pub mended_text : List (Option Mended) → List ℕ
mended_text found = flat_map mended_bytes found

-- A text has room for the words of this number of blocks.
abbrev pub HasWordRoom : ℕ → List ℕ → Type 0
HasWordRoom blocks text = symbols_a_slot * whole_packs blocks ≤ length text

-- ---- Two readings.

-- the way in which a word of two readings is mended: both candidates are the codeword, or only one is, or both agree on it
abbrev pub way_by : WordSource → List Candidate → List ℕ → Way
way_by (Reading r) candidates codeword = if votes candidates codeword == 2 then Both
    else (if r == 0 then First else Second)
way_by Agreed candidates codeword = Together

abbrev pub way_of : List Candidate → Option Mended → Option Way
way_of candidates (Some mended) = Some (way_by mended.source candidates mended.pack)
way_of candidates None = None

-- the ways of all words
abbrev pub ways_of : List (List Candidate) → List (Option Mended) → List (Option Way)
ways_of (candidates ∷ said) (found ∷ rest) = way_of candidates found ∷ ways_of said rest
ways_of said found = []

-- whether two ways are the same
abbrev pub is_way : Way → Way → Bool
is_way Both Both = true
is_way First First = true
is_way Second Second = true
is_way Together Together = true
is_way way other = false

abbrev pub is_mended_by : Way → Option Way → Bool
is_mended_by way (Some own) = is_way way own
is_mended_by way None = false

-- The counts say how many words are mended in each way, and how many are not mended.
pub record AreCounts (ways : List (Option Way)) (counts : MendCounts) : Type 0 where
  pub both : counts.both ≡ count_by (is_mended_by Both) ways
  pub of_first : counts.of_first ≡ count_by (is_mended_by First) ways
  pub of_second : counts.of_second ≡ count_by (is_mended_by Second) ways
  pub agreed : counts.agreed ≡ count_by (is_mended_by Together) ways
  pub none : counts.none ≡ count_by is_none ways

-- The words of both readings are mended, and their text is at the front of a buffer. The bytes behind it are unchanged.
pub record IsMendedInto (lead_in : ℕ) (first second old new : List ℕ) (counts : MendCounts) : Type 0 where
  pub said : List (List Candidate)
  pub found : List (Option Mended)
  pub mended : AreMended (whole_packs (length first / block_bytes - lead_in))
      (program_of lead_in first ∷ program_of lead_in second ∷ []) said found
  pub counts_are : AreCounts (ways_of said found) counts
  pub size : length (mended_text found) ≡ symbols_a_slot * whole_packs (length first / block_bytes - lead_in)
  pub text : new ≡ mended_text found ++ drop (length (mended_text found)) old
