-- The candidate of a reading at a word.
use Rattle.std.specs.Prelude.{◌≡◌, ℕ, ◌==◌, ◌&&◌, ◌||◌, Bool, true, false, not, if◌then◌else◌, List, [], ◌∷◌, Option, Some, None, IfSome, slice_index_or}
use Rattle.std.specs.List.{list_any}
use Rattle.rw_code.specs.Codeword.{Reads, differences}
use Rattle.rw_code.specs.Finding.{finding}
use Rattle.rw_code.specs.Packs.{idle_pack}
use Rattle.rw_code.specs.declared.correction.Fixed.{Fixed}
use Rattle.rw_mend.specs.declared.candidates.Coverage.{Coverage}
use Rattle.rw_mend.specs.declared.candidates.Coverage.TheVariants.{Partly, Unread}
use Rattle.rw_mend.specs.declared.candidates.WordReading.{WordReading}
use Rattle.rw_mend.specs.declared.candidates.Candidate.{Candidate}
use Rattle.rw_mend.specs.declared.candidates.Candidate.TheVariants.{Silent, Lost, Near}

-- If the result is a codeword, the word is corrected to it, and the number of its wrong symbols is right.
abbrev pub GivesNear : List ℕ → Option Fixed → Type 0
GivesNear word given =
    IfSome given (λ fixed. Reads word fixed.pack × (fixed.wrong ≡ differences word fixed.pack))

-- whether a codeword is the idle pack
abbrev pub is_idle_pack : List ℕ → Bool
is_idle_pack codeword = differences codeword idle_pack == 0

-- The distance of a codeword near a word: the number of symbols in which they differ. The idle pack has the distance 3 if
-- one of the blocks under the word is unread.
abbrev pub distance_of : Coverage → List ℕ → List ℕ → ℕ
distance_of Partly word codeword = if is_idle_pack codeword then 3 else differences word codeword
distance_of coverage word codeword = differences word codeword

-- the candidate of a word that was read: the codeword that is found for it, or the lost word itself
abbrev pub candidate_found : WordReading → Option (List ℕ) → Candidate
candidate_found reading (Some codeword) = Near codeword (distance_of reading.coverage reading.word codeword)
candidate_found reading None = Lost reading.word

-- the candidate of a word by its coverage: `Silent` if the word was not read
abbrev pub candidate_covered : Coverage → WordReading → Candidate
candidate_covered Unread reading = Silent
candidate_covered coverage reading = candidate_found reading (finding reading.word)

-- the candidate of a reading at a word, regardless of the other readings
unfoldable pub candidate_of : WordReading → Candidate
candidate_of reading = candidate_covered reading.coverage reading

-- whether a candidate is the idle pack
abbrev pub is_idle_candidate : Candidate → Bool
is_idle_candidate (Near pack distance) = is_idle_pack pack
is_idle_candidate candidate = false

-- whether a candidate is the idle pack, or nothing was read
abbrev pub is_quiet_candidate : Candidate → Bool
is_quiet_candidate Silent = true
is_quiet_candidate candidate = is_idle_candidate candidate

-- the instructions of graphics packs
abbrev pub instructions : List ℕ
instructions = 1 ∷ 2 ∷ 6 ∷ 20 ∷ 24 ∷ 28 ∷ 30 ∷ 31 ∷ 38 ∷ []

-- whether a codeword is a graphics pack: its mode and item are those of graphics, and its instruction is known
abbrev pub is_graphics_pack : List ℕ → Bool
is_graphics_pack codeword = (slice_index_or codeword 0 0 == 9)
    && list_any (λ known. slice_index_or codeword 1 0 == known) instructions

-- Whether a candidate shows that the word is not idle: it is not the idle pack, and it is either a codeword without a
-- wrong symbol or a graphics pack.
abbrev pub is_graphics_candidate : Candidate → Bool
is_graphics_candidate (Near pack distance) = not (is_idle_pack pack)
    && ((distance == 0) || is_graphics_pack pack)
is_graphics_candidate candidate = false

-- the modes and items that discs carry: line graphics, graphics, extended graphics, MIDI
abbrev pub used_modes : List ℕ
used_modes = 8 ∷ 9 ∷ 10 ∷ 24 ∷ []

-- whether the mode and item of a codeword are among those that discs carry
abbrev pub has_used_mode : List ℕ → Bool
has_used_mode codeword = list_any (λ mode. slice_index_or codeword 0 0 == mode) used_modes

-- whether a candidate is a doubtful codeword: not the idle pack, of a mode and item that no disc carries, and with a wrong
-- symbol
abbrev pub is_doubtful_candidate : Candidate → Bool
is_doubtful_candidate (Near pack distance) = not (is_idle_pack pack)
    && (not (distance == 0) && not (has_used_mode pack))
is_doubtful_candidate candidate = false
