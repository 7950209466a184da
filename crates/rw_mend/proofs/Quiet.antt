-- Quiet words and graphics, from the numbers of their symbols.
use Rattle.std.proofs.Common.{◌≡◌, ◌≢◌, ◌⊎◌, ℕ, ◌<◌, ◌≤◌, ◌==◌, Bool, true, false, List, length, replicate, refl, sym, ap, ◌∙◌, subst, inl, inr, arith, Some, None}
use Rattle.std.specs.Prelude.{◌&&◌, ◌||◌, not, if◌then◌else◌, MatchBool}
use Rattle.std.specs.List.{list_any}
use Rattle.std.specs.declared.option.Option.{Option}
use Rattle.std.proofs.lemmas.Bool.{false≢true}
use Rattle.std.proofs.lemmas.List.Folds.{list_any_at}
use Rattle.std.proofs.lemmas.Bool.Decides.{eqb_tells}
use Rattle.raw_subcode.specs.Channels.{symbols_of}
use Rattle.rw_code.specs.Codeword.{IsWord, differences}
use Rattle.rw_code.specs.Finding.{IsFinding, finding}
use Rattle.rw_code.proofs.Differing.{differences_none, differences_self}
use Rattle.rw_code.proofs.Errors.{idle_near}
use Rattle.rw_code.proofs.Finding.{finding_is}
use Rattle.rw_interleave.specs.Interleave.{word_of}
use Rattle.rw_mend.specs.Drops.{HasGraphics, Misses}
use Rattle.rw_mend.specs.Rows.{IsRow}
use Rattle.rw_mend.specs.Candidates.{distance_of, is_graphics_pack, is_graphics_candidate, is_idle_pack, is_idle_candidate, is_quiet_candidate, candidate_covered, candidate_found, candidate_of}
use Rattle.rw_mend.specs.Words.{given_at, reading_at}
use Rattle.rw_mend.specs.declared.candidates.Coverage.{Coverage}
use Rattle.rw_mend.specs.declared.candidates.Coverage.TheVariants.{Whole, Partly, Unread}
use Rattle.rw_mend.specs.declared.candidates.WordReading.{WordReading}
use Rattle.rw_mend.specs.declared.candidates.Candidate.{Candidate}
use Rattle.rw_mend.specs.declared.candidates.Candidate.TheVariants.{Silent, Lost, Near}
use Rattle.rw_mend.proofs.Givens.{is_word, reading-word}
use Rattle.rw_mend.proofs.Decoding.{near_is, silent_is}
use Rattle.rw_mend.proofs.Missing.{some_passes}
use Rattle.rw_mend.proofs.Unread.{unread_zero}

-- whether nothing was read
unread_or : (coverage : Coverage) → (coverage ≡ Unread) ⊎ (coverage ≢ Unread)
unread_or Unread = inl refl
unread_or Whole = inr (λ is. (cc))
unread_or Partly = inr (λ is. (cc))

idle_is : is_idle_pack (replicate 24 0) ≡ true
idle_is = ap (λ n. n == 0) (differences_self (replicate 24 0))

-- ---- Quiet words.

near_quiet : (reading : WordReading) → IsWord reading.word → differences reading.word (replicate 24 0) ≤ 2
    → is_quiet_candidate (candidate_of reading) ≡ true
near_quiet reading word few =
    let zeros : List ℕ = replicate 24 0 in
    elim (unread_or reading.coverage) [
      | inl unread ↦ ap is_quiet_candidate (sym (silent_is reading unread))
      | inr is_read ↦
          ap is_quiet_candidate
          (sym (near_is reading zeros (distance_of reading.coverage reading.word zeros) is_read
          word (idle_near reading.word zeros (differences reading.word zeros) refl refl few).0 refl))
          ∙ idle_is
    ]

found_loud : (reading : WordReading) (found : Option (List ℕ)) → IsWord reading.word
    → IsFinding reading.word found → 2 < differences reading.word (replicate 24 0)
    → is_quiet_candidate (candidate_found reading found) ≡ false
found_loud reading None word is many = refl
found_loud reading (Some codeword) word is many =
    let zeros : List ℕ = replicate 24 0 in
    elim (eqb_tells (differences codeword zeros) 0) [
      | inl same ↦
          let equal : codeword ≡ zeros = differences_none codeword zeros is.is_codeword.is_word.size same.1 in
          absurd (omega (arith, many, ap (differences reading.word) equal, is.is_near))
      | inr other ↦ other.0
    ]

covered_loud : (coverage : Coverage) (reading : WordReading) → coverage ≢ Unread → IsWord reading.word
    → 2 < differences reading.word (replicate 24 0)
    → is_quiet_candidate (candidate_covered coverage reading) ≡ false
covered_loud Unread reading is_read word many = absurd (is_read refl)
covered_loud Whole reading is_read word many =
    found_loud reading (finding reading.word) word (finding_is reading.word word) many
covered_loud Partly reading is_read word many =
    found_loud reading (finding reading.word) word (finding_is reading.word word) many

far_loud : (reading : WordReading) → reading.coverage ≢ Unread → IsWord reading.word
    → 2 < differences reading.word (replicate 24 0) → is_quiet_candidate (candidate_of reading) ≡ false
unfolding candidate_of
far_loud reading is_read word many = covered_loud reading.coverage reading is_read word many

-- a word with symbols was read
far_read : (program : List ℕ) (n : ℕ) → 2 < differences ((reading_at program n).word) (replicate 24 0)
    → (reading_at program n).coverage ≢ Unread
far_read program n many unread =
    let zeros : List ℕ = replicate 24 0 in
    omega (
      arith,
      many,
      ap (λ w. differences w zeros) (reading-word program n ∙ unread_zero program n unread),
      differences_self zeros,
    )

-- A word is quiet if at most two of its symbols are not 0.
pub quiet_by_weight : (program : List ℕ) (n weight : ℕ) (b : Bool)
    → weight ≡ differences (word_of (symbols_of program) n) (replicate 24 0)
    → ((b ≡ true) × (weight ≤ 2)) ⊎ ((b ≡ false) × (2 < weight))
    → b ≡ is_quiet_candidate (candidate_of (reading_at program n))
quiet_by_weight program n weight b is which =
    let reading = reading_at program n in
    let zeros : List ℕ = replicate 24 0 in
    let own : differences reading.word zeros ≡ weight =
    ap (λ w. differences w zeros) (reading-word program n) ∙ sym is in
    elim which [
      | inl near ↦
          near.0 ∙ sym (near_quiet reading (is_word program n) (omega (arith, own, near.1)))
      | inr far ↦
          let far' : 2 < differences reading.word zeros = omega (arith, own, far.1) in
          far.0 ∙ sym (far_loud reading (far_read program n far') (is_word program n) far')
    ]

-- a word without symbols is quiet
pub blank_quiet : (program : List ℕ) (n : ℕ) → word_of (symbols_of program) n ≡ replicate 24 0
    → is_quiet_candidate (candidate_of (reading_at program n)) ≡ true
blank_quiet program n blank =
    let zeros : List ℕ = replicate 24 0 in
    near_quiet (reading_at program n) (is_word program n)
    (omega (arith, ap (λ w. differences w zeros) (reading-word program n ∙ blank), differences_self zeros))

-- ---- Idle words.

found_idle : (reading : WordReading) (found : Option (List ℕ))
    → is_idle_candidate (candidate_found reading found) ≡ is_quiet_candidate (candidate_found reading found)
found_idle reading None = refl
found_idle reading (Some codeword) = refl

covered_idle : (coverage : Coverage) (reading : WordReading) → coverage ≢ Unread
    → is_idle_candidate (candidate_covered coverage reading)
    ≡ is_quiet_candidate (candidate_covered coverage reading)
covered_idle Unread reading is_read = absurd (is_read refl)
covered_idle Whole reading is_read = found_idle reading (finding reading.word)
covered_idle Partly reading is_read = found_idle reading (finding reading.word)

-- a quiet word that was read is idle
pub read_idle : (reading : WordReading) → reading.coverage ≢ Unread
    → is_idle_candidate (candidate_of reading) ≡ is_quiet_candidate (candidate_of reading)
unfolding candidate_of
read_idle reading is_read = covered_idle reading.coverage reading is_read

-- and one that was not read is not
pub unread_not_idle : (reading : WordReading) → reading.coverage ≡ Unread
    → is_idle_candidate (candidate_of reading) ≡ false
unread_not_idle reading unread = ap is_idle_candidate (sym (silent_is reading unread))

-- ---- Graphics.

quiet_not_graphics : (candidate : Candidate) → is_quiet_candidate candidate ≡ true
    → is_graphics_candidate candidate ≡ false
quiet_not_graphics Silent is = refl
quiet_not_graphics (Lost word) is = refl
quiet_not_graphics (Near pack distance) is =
    ap (λ idle. not idle && ((distance == 0) || is_graphics_pack pack)) is

near_alike : (idle graphics : Bool) (distance : ℕ)
    → (not idle && (((if idle then 3 else distance) == 0) || graphics))
    ≡ (not idle && ((distance == 0) || graphics))
near_alike true graphics distance = refl
near_alike false graphics distance = refl

distance_alike : (coverage : Coverage) (word codeword : List ℕ)
    → is_graphics_candidate (Near codeword (differences word codeword))
    ≡ is_graphics_candidate (Near codeword (distance_of coverage word codeword))
distance_alike Whole word codeword = refl
distance_alike Unread word codeword = refl
distance_alike Partly word codeword =
    sym (near_alike (is_idle_pack codeword) (is_graphics_pack codeword) (differences word codeword))

found_alike : (coverage : Coverage) (word : List ℕ) (found : Option (List ℕ))
    → is_graphics_candidate (candidate_found (record { word = word; coverage = Whole }) found)
    ≡ is_graphics_candidate (candidate_found (record { word = word; coverage = coverage }) found)
found_alike coverage word None = refl
found_alike coverage word (Some codeword) = distance_alike coverage word codeword

covered_alike : (coverage : Coverage) (word : List ℕ) → coverage ≢ Unread
    → is_graphics_candidate (candidate_of (record { word = word; coverage = Whole }))
    ≡ is_graphics_candidate (candidate_of (record { word = word; coverage = coverage }))
unfolding candidate_of
covered_alike Unread word is_read = absurd (is_read refl)
covered_alike Whole word is_read = refl
covered_alike Partly word is_read = found_alike Partly word (finding word)

-- A word in which at most two symbols are not 0 is no graphics.
pub light_no_graphics : (program : List ℕ) (n : ℕ) (word : List ℕ) → word ≡ word_of (symbols_of program) n
    → differences word (replicate 24 0) ≤ 2
    → false ≡ is_graphics_candidate (candidate_of (reading_at program n))
light_no_graphics program n word is few =
    let reading = reading_at program n in
    let same : word ≡ reading.word = is ∙ sym (reading-word program n) in
    sym (quiet_not_graphics (candidate_of reading)
    (near_quiet reading (is_word program n) (subst (λ w. differences w (replicate 24 0) ≤ 2) same few)))

-- For any other word, it does not matter how much of it was read.
pub heavy_graphics : (program : List ℕ) (n : ℕ) (word : List ℕ) → word ≡ word_of (symbols_of program) n
    → 2 < differences word (replicate 24 0)
    → is_graphics_candidate (candidate_of (record { word = word; coverage = Whole }))
    ≡ is_graphics_candidate (candidate_of (reading_at program n))
heavy_graphics program n word is many =
    let reading = reading_at program n in
    let same : word ≡ reading.word = is ∙ sym (reading-word program n) in
    ap (λ w. is_graphics_candidate (candidate_of (record { word = w; coverage = Whole }))) same
    ∙ covered_alike reading.coverage reading.word
    (far_read program n (subst (λ w. 2 < differences w (replicate 24 0)) same many))

-- Some reading has graphics if a candidate of the row is graphics.
pub row_graphics : (programs : List (List ℕ)) (n : ℕ) (row : List Candidate) (b : Bool)
    → length programs ≡ length row → IsRow programs n row → b ≡ list_any is_graphics_candidate row
    → MatchBool b (HasGraphics programs n) (¬ HasGraphics programs n)
row_graphics programs n row true size rows is =
    let some = some_passes is_graphics_candidate row Silent (sym is) in
    let within : some.0 < length programs = omega (arith, size, some.1) in
    record {
      reading = some.0;
      within = within;
      graphics = ap is_graphics_candidate (sym (rows.each some.0 within)) ∙ some.2;
    }
row_graphics programs n row false size rows is = λ has.
    false≢true
    (is ∙ list_any_at is_graphics_candidate row has.reading Silent (omega (arith, size, has.within))
    (ap is_graphics_candidate (rows.each has.reading has.within) ∙ has.graphics))

-- if some reading has graphics, a reading misses them if and only if it has the idle pack
pub idle_misses : (programs : List (List ℕ)) (r n : ℕ) (b : Bool) → HasGraphics programs n
    → b ≡ is_idle_candidate (given_at programs r n)
    → MatchBool b (Misses programs r n) (¬ Misses programs r n)
idle_misses programs r n true graphics is = record { idle = sym is; graphics = graphics }
idle_misses programs r n false graphics is = λ misses. false≢true (is ∙ misses.idle)
