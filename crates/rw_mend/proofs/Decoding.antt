-- The candidate of a reading at a word, by cases.
use Rattle.std.proofs.Common.{◌≡◌, ◌≢◌, ◌==◌, ℕ, if◌then◌else◌, List, replicate, refl, sym, ap, ap₂, ◌∙◌, subst, arith, Some, None}
use Rattle.rw_code.specs.Codeword.{IsWord, Reads, differences}
use Rattle.rw_code.proofs.Differing.{differences_self}
use Rattle.rw_code.proofs.Errors.{idle_near}
use Rattle.rw_code.specs.Finding.{finding}
use Rattle.rw_code.proofs.Finding.{only_finding}
use Rattle.rw_mend.specs.Candidates.{distance_of, candidate_covered, candidate_found, candidate_of}
use Rattle.rw_mend.specs.declared.candidates.Coverage.{Coverage}
use Rattle.rw_mend.specs.declared.candidates.Coverage.TheVariants.{Whole, Partly, Unread}
use Rattle.rw_mend.specs.declared.candidates.WordReading.{WordReading}
use Rattle.rw_mend.specs.declared.candidates.Candidate.TheVariants.{Silent, Lost, Near}

unread_silent : (coverage : Coverage) (reading : WordReading) → coverage ≡ Unread
    → Silent ≡ candidate_covered coverage reading
unread_silent Whole reading is = cc
unread_silent Partly reading is = cc
unread_silent Unread reading is = refl

read_found : (coverage : Coverage) (reading : WordReading) → coverage ≢ Unread
    → candidate_found reading (finding reading.word) ≡ candidate_covered coverage reading
read_found Whole reading is_read = refl
read_found Partly reading is_read = refl
read_found Unread reading is_read = absurd (is_read refl)

pub silent_is : (reading : WordReading) → reading.coverage ≡ Unread → Silent ≡ candidate_of reading
unfolding candidate_of
silent_is reading is = unread_silent reading.coverage reading is

pub near_is : (reading : WordReading) (codeword : List ℕ) (distance : ℕ) → reading.coverage ≢ Unread
    → IsWord reading.word → Reads reading.word codeword
    → distance ≡ distance_of reading.coverage reading.word codeword
    → Near codeword distance ≡ candidate_of reading
unfolding candidate_of
near_is reading codeword distance is_read word reads distance_are =
    ap (Near codeword) distance_are
    ∙ ap (candidate_found reading) (only_finding reading.word word (Some codeword) reads)
    ∙ read_found reading.coverage reading is_read

pub lost_is : (reading : WordReading) → reading.coverage ≢ Unread → IsWord reading.word
    → ((codeword : List ℕ) → ¬ Reads reading.word codeword) → Lost reading.word ≡ candidate_of reading
unfolding candidate_of
lost_is reading is_read word none =
    ap (candidate_found reading) (only_finding reading.word word None none)
    ∙ read_found reading.coverage reading is_read

-- ---- A word without symbols.

idle_reads : (reading : WordReading) → reading.word ≡ replicate 24 0 → Reads reading.word (replicate 24 0)
idle_reads reading is =
    let zeros : List ℕ = replicate 24 0 in
    subst (λ w. Reads w zeros) (sym is)
    ((idle_near zeros zeros 0 refl (sym (differences_self zeros)) (omega arith)).0)

idle_word : (reading : WordReading) → reading.word ≡ replicate 24 0 → IsWord reading.word
idle_word reading is =
    let zeros : List ℕ = replicate 24 0 in
    subst IsWord (sym is)
    ((idle_near zeros zeros 0 refl (sym (differences_self zeros)) (omega arith)).0.is_codeword.is_word)

pub whole_idle : (reading : WordReading) → reading.coverage ≡ Whole → reading.word ≡ replicate 24 0
    → Near (replicate 24 0) 0 ≡ candidate_of reading
whole_idle reading whole is =
    let zeros : List ℕ = replicate 24 0 in
    near_is reading zeros 0 (λ unread. (cc)) (idle_word reading is) (idle_reads reading is)
    (sym (ap₂ (λ c w. distance_of c w zeros) whole is ∙ differences_self zeros))

pub partly_idle : (reading : WordReading) → reading.coverage ≡ Partly → reading.word ≡ replicate 24 0
    → Near (replicate 24 0) 3 ≡ candidate_of reading
partly_idle reading partly is =
    let zeros : List ℕ = replicate 24 0 in
    near_is reading zeros 3 (λ unread. (cc)) (idle_word reading is) (idle_reads reading is)
    (sym (ap₂ (λ c w. distance_of c w zeros) partly is
    ∙ ap (λ t. if t then 3 else differences zeros zeros) (ap (λ n. n == 0) (differences_self zeros))))
