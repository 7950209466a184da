-- The packs of a file on the screen.
use Rattle.std.proofs.Common.{◌≡◌, ℕ, zero, suc, ◌+◌, ◌*◌, ◌/◌, ◌-◌, ◌<◌, ◌≤◌, List, [], ◌∷◌, ◌++◌, length, get_or, map, take, drop, replicate, inl, inr, refl, sym, ap, ap₂, subst, ◌∙◌, arith}
use Rattle.std.specs.Prelude.{Option, Some}
use Rattle.std.proofs.Math.Seq.{take-add}
use Rattle.std.proofs.lemmas.List.{get_or-take, get_or-drop, length-take-le, length-drop, length-map, map-append, take-map, take-append-le, take_all}
use Rattle.bit_lists.specs.Counting.{parts, whole_parts}
use Rattle.disc_time.specs.Counts.{pause_blocks}
use Rattle.raw_subcode.specs.Channels.{program_symbols, symbols_of}
use Rattle.raw_subcode.specs.declared.form.Form.{Form}
use Rattle.rw_interleave.specs.Interleave.{whole_packs}
use Rattle.cue_sheet.specs.CueSheet.{CueSheet}
use Rattle.toc_model.specs.Places.{program_blocks}
use Rattle.rw_interleave.specs.Stream.{all_packs, bad_count, word_count, IsRecovered}
use Rattle.cdg_instructions.specs.Instruction.{Means}
use Rattle.cdg_instructions.specs.MadeGood.{IsMadeGood}
use Rattle.cdg_instructions.specs.Meaning.{meaning}
use Rattle.cdg_instructions.specs.declared.instr.Instr.{Instr}
use Rattle.cdg_instructions.specs.declared.instr.Instr.TheVariants.{Idle}
use Rattle.cdg_screen.specs.Texts.{pixmap}
use Rattle.cdg_screen.specs.Standing.{Standing, blank, standing_after}
use Rattle.stream_stages.specs.Convert.{IsDamagedStream}
use Rattle.stream_stages.specs.Screen.{AreMeant, IsScreenAt, moment}
use Rattle.stream_stages.proofs.Restoring.{Recovers, program_small}
use Rattle.rw_code.specs.Packs.{idle_pack}
use Rattle.cdg_press.specs.Pressed.{file_begin, file_pack, file_packs, IsPressed, press_of}
use Rattle.cdg_press.specs.Thin.{AreInstructionsOf}
use Rattle.cdg_press.specs.Steps.{pack_instruction}
use Rattle.cdg_press.proofs.Meanings.{has_instruction}
use Rattle.cdg_press.proofs.Forms.{first_read, instructions_of, read_each}
use Rattle.round_trips.specs.Damaged.{DamagedPress, IsFileText}
use Rattle.round_trips.proofs.Meanings.{same_meaning}
use Rattle.round_trips.proofs.Standings.{idle_around, InTurn}

-- a law of the crate below
abbrev pub OneMeaning : Type 0
OneMeaning = (word : List ℕ) (instr : Instr) → Means word instr → instr ≡ meaning word

abbrev pub NoneBad : Type 0
NoneBad = (packs : List (List ℕ)) → bad_count (map (λ pack. Some pack) packs) ≡ 0

meant_is : OneMeaning → (packs : List (List ℕ)) (instrs : List Instr)
    → AreMeant (map (λ pack. Some pack) packs) instrs
    → instrs ≡ map meaning packs
meant_is one [] instrs meant = meant
meant_is one (pack ∷ packs) [] meant = absurd meant
meant_is one (pack ∷ packs) (instr ∷ instrs) meant =
    ap₂ (λ i is. i ∷ is) (one pack instr meant.0) (meant_is one packs instrs meant.1)

-- idle packs

idle_means : meaning idle_pack ≡ Idle
unfolding meaning
idle_means = refl

all_idle : (packs : List (List ℕ)) → ((k : ℕ) → k < length packs → get_or packs k [] ≡ idle_pack)
    → map meaning packs ≡ replicate (length packs) Idle
all_idle [] idle = refl
all_idle (pack ∷ packs) idle =
    ap₂ (λ i is. i ∷ is) (ap meaning (idle 0 (omega arith)) ∙ idle_means)
    (all_idle packs (λ k lt. idle (suc k) (omega (arith, lt))))

-- the packs of a file

length-parts : (count : ℕ) (bytes : List ℕ) → length (parts count 24 bytes) ≡ count
length-parts zero bytes = refl
length-parts (suc count) bytes = ap suc (length-parts count (drop 24 bytes))

count_of_file : (file : List ℕ) → length (file_packs file) ≡ length file / 24
count_of_file file =
    length-map (parts (length file / 24) 24 file) symbols_of ∙ length-parts (length file / 24) file

-- the standing after the first packs of a file
abbrev file_standing : List ℕ → ℕ → Standing
file_standing file many = standing_after blank (map meaning (take many (file_packs file)))

-- the meanings of the symbols of packs are their instructions
meanings_are : (many : ℕ) (packs : List (List ℕ))
    → map meaning (take many (map symbols_of packs)) ≡ instructions_of (take many packs)
unfolding pack_instruction
meanings_are zero packs = refl
meanings_are (suc many) [] = refl
meanings_are (suc many) (pack ∷ packs) = ap (λ is. meaning (symbols_of pack) ∷ is) (meanings_are many packs)

part_size : (count : ℕ) (bytes : List ℕ) (k : ℕ) → k < count → 24 * count ≤ length bytes
    → length (get_or (parts count 24 bytes) k []) ≡ 24
part_size zero bytes k lt fits = absurd (omega (arith, lt))
part_size (suc count) bytes zero lt fits = length-take-le 24 bytes (omega (arith, fits))
part_size (suc count) bytes (suc k) lt fits =
    part_size count (drop 24 bytes) k (omega (arith, lt)) (omega (arith, fits, length-drop 24 bytes))

-- the first packs of a file have these instructions
file_read : (file : List ℕ) (many : ℕ)
    → AreInstructionsOf (take many (whole_parts 24 file)) (map meaning (take many (file_packs file)))
file_read file many =
    let packs : List (List ℕ) = whole_parts 24 file in
    let all : AreInstructionsOf packs (instructions_of packs) =
    read_each packs (λ n lt.
    let in_file : n < length file / 24 = omega (arith, lt, length-parts (length file / 24) file) in
    has_instruction (get_or packs n []) (part_size (length file / 24) file n in_file (omega arith))) in
    subst (AreInstructionsOf (take many packs))
    (take-map pack_instruction many packs ∙ sym (meanings_are many packs))
    (first_read many packs (instructions_of packs) all)

-- the first packs are packs of a file with computed parity, and the others are idle
record AreOfFile (files packs : List (List ℕ)) : Type 0 where
  good : (k : ℕ) → k < length files → k < length packs → IsMadeGood (get_or files k []) (get_or packs k [])
  idle : (k : ℕ) → length files ≤ k → k < length packs → get_or packs k [] ≡ idle_pack

of_file_means : (files packs : List (List ℕ)) → AreOfFile files packs
    → (n : ℕ) × (map meaning packs ≡ map meaning (take (length packs) files) ++ replicate n Idle)
of_file_means [] packs are =
    let none : take (length packs) [] ≡ [] = take_all {A = List ℕ} (length packs) [] (omega arith) in (
      length packs,
      all_idle packs (λ k lt. are.idle k (omega arith) lt)
          ∙ ap (λ (xs : List (List ℕ)). map meaning xs ++ replicate (length packs) Idle) (sym none),
    )
of_file_means (file ∷ files) [] are = (0, refl)
of_file_means (file ∷ files) (pack ∷ packs) are =
    let here = are.good 0 (omega arith) (omega arith) in
    let rest = of_file_means files packs (record {
      good = λ k lt in_packs. are.good (suc k) (omega (arith, lt)) (omega (arith, in_packs));
      idle = λ k past in_packs. are.idle (suc k) (omega (arith, past)) (omega (arith, in_packs));
    }) in (
      rest.0,
      ap₂ (λ i is. i ∷ is) (same_meaning pack file here.codeword.is_word.size here.size here.message) rest.1,
    )

module _ (sheet : CueSheet) (file : List ℕ) (lead_in audio : ℕ) (bytes : List ℕ) (packs : List (List ℕ))
    (pressed : IsPressed (press_of sheet file lead_in audio) bytes packs) (time : ℕ) (in_audio : time ≤ audio)
  where
    many : file_begin + 4 * time ≤ length packs
    many = omega (arith, pressed.carries.count, in_audio)

    abbrev before : List (List ℕ)
    before = take file_begin packs

    abbrev within : List (List ℕ)
    within = take (4 * time) (drop file_begin packs)

    before_count : length before ≡ file_begin
    before_count = length-take-le file_begin packs (omega (arith, many))

    within_count : length within ≡ 4 * time
    within_count =
        length-take-le (4 * time) (drop file_begin packs) (omega (arith, many, length-drop file_begin packs))

    within_at : (k : ℕ) → k < length within → get_or within k [] ≡ get_or packs (file_begin + k) []
    within_at k lt =
        get_or-take (4 * time) (drop file_begin packs) k [] (omega (arith, lt, within_count))
        ∙ get_or-drop file_begin packs k []

    before_idle : (k : ℕ) → k < length before → get_or before k [] ≡ idle_pack
    before_idle k lt =
        let small : k < file_begin = omega (arith, lt, before_count) in
        get_or-take file_begin packs k [] small
        ∙ pressed.others k (omega (arith, small, many, pressed.carries.count)) (inl small)

    within_of_file : AreOfFile (file_packs file) within
    within_of_file = record {
      good = λ k lt in_packs.
          subst (λ (w : List ℕ). IsMadeGood (file_pack file k) w) (sym (within_at k in_packs))
          (pressed.of_file k (omega (arith, lt, count_of_file file)));
      idle = λ k past in_packs.
          within_at k in_packs
          ∙ pressed.others (file_begin + k)
          (omega (arith, in_packs, within_count, many, pressed.carries.count))
          (inr (omega (arith, past, count_of_file file)));
    }

    first_packs : take (whole_packs (pause_blocks + time)) packs ≡ before ++ within
    first_packs =
        let sum : whole_packs (pause_blocks + time) ≡ file_begin + 4 * time = omega arith in
        ap (λ n. take n packs) sum ∙ take-add file_begin (4 * time) packs

    first_mean : map meaning (take (whole_packs (pause_blocks + time)) packs)
        ≡ replicate (length before) Idle ++ (map meaning (take (4 * time) (file_packs file))
        ++ replicate (of_file_means (file_packs file) within within_of_file).0 Idle)
    first_mean =
        ap (map meaning) first_packs ∙ map-append meaning before within
        ∙ ap₂ (λ xs ys. xs ++ ys) (all_idle before before_idle)
        ((of_file_means (file_packs file) within within_of_file).1
        ∙ ap (λ n. map meaning (take n (file_packs file))
        ++ replicate (of_file_means (file_packs file) within within_of_file).0 Idle) within_count)

    -- the standing is the standing after the packs of the file
    pub same_standing : InTurn → (instrs : List Instr)
        → instrs ≡ map meaning (take (whole_packs (pause_blocks + time)) packs)
        → standing_after blank instrs ≡ file_standing file (4 * time)
    same_standing laws instrs are =
        subst (λ (is : List Instr). standing_after blank is ≡ file_standing file (4 * time))
        (sym (are ∙ first_mean))
        (idle_around laws (length before) (of_file_means (file_packs file) within within_of_file).0
        (map meaning (take (4 * time) (file_packs file))))

module _ (form : Form) (lead_in : ℕ) (others : List ℕ) (press : DamagedPress form lead_in others) where
  abbrev blocks : ℕ
  blocks = program_blocks press.sheet press.audio

  pub stream_of : IsDamagedStream form lead_in (program_blocks press.sheet press.audio) press.packs others
  stream_of = record {
    few = press.few;
    whole = press.whole;
    symbols = _;
    carries = press.pressed.carries;
    damaged = press.damaged;
  }

  pub found_is : Recovers → (found : List (Option (List ℕ)))
      → IsRecovered form (program_symbols form others lead_in) found
      → found ≡ map (λ pack. Some pack) (all_packs form (program_blocks press.sheet press.audio) press.packs)
  found_is recovers found recovered =
      recovers form (program_blocks press.sheet press.audio) _ (program_symbols form others lead_in)
      press.packs found press.pressed.carries (program_small form others lead_in) press.damaged recovered

  module _ (recovers : Recovers) (time : ℕ) (text : List ℕ) (bad : ℕ) (in_audio : time ≤ press.audio)
      (screen : IsScreenAt (moment form lead_in (pause_blocks + time)) others text bad) where
    first_found : take (whole_packs (pause_blocks + time)) screen.found
        ≡ map (λ pack. Some pack) (take (whole_packs (pause_blocks + time)) press.packs)
    first_found =
        let within : whole_packs (pause_blocks + time) ≤ length press.packs = omega (
          arith,
          many press.sheet press.file lead_in press.audio press.bytes press.packs press.pressed time in_audio,
        ) in
        ap (take (whole_packs (pause_blocks + time))) (found_is recovers screen.found screen.recovered)
        ∙ take-map (λ pack. Some pack) (whole_packs (pause_blocks + time)) (all_packs form blocks press.packs)
        ∙ ap (map (λ pack. Some pack)) (take-append-le (whole_packs (pause_blocks + time)) press.packs
        (replicate (word_count form blocks - length press.packs) (replicate 24 0)) within)

    pub file_text : OneMeaning → InTurn → IsFileText press.file (4 * time) text
    file_text one laws =
        let are : screen.instrs ≡ map meaning (take (whole_packs (pause_blocks + time)) press.packs) =
        meant_is one (take (whole_packs (pause_blocks + time)) press.packs) screen.instrs
        (subst (λ (l : List (Option (List ℕ))). AreMeant l screen.instrs) first_found screen.shown) in
        record {
          instrs = map meaning (take (4 * time) (file_packs press.file));
          read = file_read press.file (4 * time);
          text_is = screen.text_is
              ∙ ap pixmap (same_standing press.sheet press.file lead_in press.audio press.bytes press.packs
              press.pressed time in_audio laws screen.instrs are);
        }

    pub none_bad : NoneBad → bad ≡ 0
    none_bad none =
        screen.bad_is ∙ ap bad_count first_found ∙ none (take (whole_packs (pause_blocks + time)) press.packs)
