-- The candidates of a reading are codewords, and they are the findings for its words.
use Rattle.std.proofs.Common.{◌≡◌, ℕ, zero, suc, ◌<◌, List, [], ◌∷◌, get_or, refl, sym, subst, arith, Some, None}
use Rattle.std.specs.declared.option.Option.{Option}
use Rattle.raw_subcode.specs.Channels.{symbols_of}
use Rattle.raw_subcode.specs.declared.form.Form.TheVariants.{Raw}
use Rattle.rw_code.specs.Codeword.{IsCodeword, IsWord}
use Rattle.rw_code.specs.Finding.{IsFinding, finding}
use Rattle.rw_code.proofs.Finding.{finding_is}
use Rattle.rw_interleave.specs.Interleave.{word_of}
use Rattle.rw_interleave.proofs.Recovery.{form_words}
use Rattle.rw_mend.specs.Candidates.{candidate_covered, candidate_found, candidate_of}
use Rattle.rw_mend.specs.Words.{given_at, reading_at}
use Rattle.rw_mend.specs.declared.candidates.Coverage.{Coverage}
use Rattle.rw_mend.specs.declared.candidates.Coverage.TheVariants.{Whole, Partly, Unread}
use Rattle.rw_mend.specs.declared.candidates.WordReading.{WordReading}
use Rattle.rw_mend.specs.declared.candidates.Candidate.TheVariants.{Near}

pub small_symbols : (bytes : List ℕ) (p : ℕ) → get_or (symbols_of bytes) p 0 < 64
small_symbols [] p = omega arith
small_symbols (byte ∷ bytes) zero = omega arith
small_symbols (byte ∷ bytes) (suc p) = small_symbols bytes p

pub reading-word : (program : List ℕ) (n : ℕ) → (reading_at program n).word ≡ word_of (symbols_of program) n
unfolding reading_at
reading-word program n = refl

pub is_word : (program : List ℕ) (n : ℕ) → IsWord ((reading_at program n).word)
is_word program n =
    subst IsWord (sym (reading-word program n))
    (form_words Raw (symbols_of program) n (small_symbols program))

found_codeword : (reading : WordReading) (found : Option (List ℕ)) (pack : List ℕ) (distance : ℕ)
    → IsFinding reading.word found → candidate_found reading found ≡ Near pack distance → IsCodeword pack
found_codeword reading (Some codeword) pack distance is same =
    let equal : codeword ≡ pack = cc in
    subst IsCodeword equal is.is_codeword
found_codeword reading None pack distance is same = cc

covered_codeword : (coverage : Coverage) (reading : WordReading) (pack : List ℕ) (distance : ℕ)
    → IsWord reading.word → candidate_covered coverage reading ≡ Near pack distance → IsCodeword pack
covered_codeword Unread reading pack distance word same = cc
covered_codeword Whole reading pack distance word same =
    found_codeword reading (finding reading.word) pack distance (finding_is reading.word word) same
covered_codeword Partly reading pack distance word same =
    found_codeword reading (finding reading.word) pack distance (finding_is reading.word word) same

candidate_codeword : (reading : WordReading) (pack : List ℕ) (distance : ℕ) → IsWord reading.word
    → candidate_of reading ≡ Near pack distance → IsCodeword pack
unfolding candidate_of
candidate_codeword reading pack distance word same =
    covered_codeword reading.coverage reading pack distance word same

pub given_codeword : (programs : List (List ℕ)) (r n : ℕ) (pack : List ℕ) (distance : ℕ)
    → given_at programs r n ≡ Near pack distance → IsCodeword pack
given_codeword programs r n pack distance same =
    candidate_codeword (reading_at (get_or programs r []) n) pack distance (is_word (get_or programs r []) n)
    same
