-- A stream that is resumed from a checkpoint is the whole stream.
use Rattle.std.proofs.Common.{◌≡◌, ℕ, zero, suc, ◌+◌, ◌-◌, ◌*◌, ◌/◌, ◌%◌, ◌<◌, ◌≤◌, List, [], ◌∷◌, ◌++◌, length, get_or, map, take, drop, replicate, refl, sym, ap, ap₂, ◌∙◌, subst, arith, length-append, length-drop, append_assoc, None, Some, inl, inr}
use Rattle.std.specs.Prelude.{Option}
use Rattle.std.specs.List.{flat_map, range_with_len}
use Rattle.std.proofs.lemmas.Bool.Decides.{leb_tells}
use Rattle.std.proofs.lemmas.List.{drop-append-le, drop-drop, get_or_append_left, get_or-append_right, get_or-drop, take-append-le}
use Rattle.bit_lists.specs.Counting.{parts}
use Rattle.rw_code.specs.Finding.{IsFinding}
use Rattle.rw_interleave.specs.Interleave.{word_of, place, whole_packs}
use Rattle.rw_interleave.proofs.Places.{swapped-lt}
use Rattle.std.proofs.Math.Seq.{drop-append-add, take-append-add}
use Rattle.stream_stages.proofs.StageRuns.{count_more}
use Rattle.stream_stages.proofs.Playing.{units_in}
use Rattle.stream_stages.proofs.Conversion.{length-units_of}
use Rattle.raw_subcode.specs.Channels.{symbols_of, program_symbols}
use Rattle.raw_subcode.specs.declared.form.Form.TheVariants.{Raw}
use Rattle.rw_interleave.specs.Stream.{IsRecovered, bad_count}
use Rattle.cdg_instructions.specs.declared.instr.Instr.{Instr}
use Rattle.cdg_screen.specs.Standing.{Standing, blank, standing_after}
use Rattle.cdg_screen.proofs.Turns.{in_turn}
use Rattle.cdg_checkpoint.specs.Checkpoint.{Checkpoint}
use Rattle.cdg_checkpoint.specs.Table.{empty_symbols}
use Rattle.stream_stages.specs.Screen.{AreMeant, moment}
use Rattle.stream_stages.specs.Watch.{IsViewed}
use Rattle.stream_stages.proofs.Views.{whole_taken}
use Rattle.cdg_checkpoint.specs.Saved.{IsCheckpointOf}
use Rattle.cdg_checkpoint.specs.Resumed.{IsGoneOn, packs_until, resumed_symbols}
use Rattle.cdg_checkpoint.proofs.SavedStreams.{symbols_are, symbols_count}

-- ---- instructions one after another

meant_both : (early late : List (Option (List ℕ))) (one other : List Instr) → AreMeant early one
    → AreMeant late other
    → AreMeant (early ++ late) (one ++ other)
meant_both [] late [] other a b = b
meant_both [] late (x ∷ one) other a b = absurd (cc)
meant_both (None ∷ early) late one other a b = meant_both early late one other a b
meant_both (Some word ∷ early) late [] other a b = absurd a
meant_both (Some word ∷ early) late (x ∷ one) other a b = (a.0, meant_both early late one other a.1 b)

-- ---- words of joined symbols

same_words : (f g : ℕ → ℕ) (a n : ℕ) → ((i : ℕ) → a ≤ i → i < a + n → f i ≡ g i)
    → map f (range_with_len a n) ≡ map g (range_with_len a n)
same_words f g a zero same = refl
same_words f g a (suc n) same =
    ap₂ (λ x (xs : List ℕ). x ∷ xs) (same a (omega arith) (omega arith))
    (same_words f g (a + 1) n (λ i le lt. same i (omega (arith, le)) (omega (arith, lt))))

early_word : (one other : List ℕ) (n : ℕ) → ((i : ℕ) → i < 24 → place n i < length one)
    → word_of (one ++ other) n ≡ word_of one n
unfolding word_of
early_word one other n within =
    same_words (λ i. get_or (one ++ other) (place n i) 0) (λ i. get_or one (place n i) 0) 0 24
    (λ i le lt. get_or_append_left one other 0 (place n i) (within i (omega (arith, lt))))

late_word : (symbols : List ℕ) (w m : ℕ) → word_of symbols (w + m) ≡ word_of (drop (24 * w) symbols) m
unfolding word_of
late_word symbols w m =
    same_words (λ i. get_or symbols (place (w + m) i) 0) (λ i. get_or (drop (24 * w) symbols) (place m i) 0) 0
    24 (λ i le lt.
    let place_is : place (w + m) i ≡ 24 * w + place m i = omega arith in
    ap (λ p. get_or symbols p 0) place_is ∙ sym (get_or-drop (24 * w) symbols (place m i) 0))

-- ---- symbols of joined bytes

parts_join : (n m : ℕ) (bytes rest : List ℕ) → length bytes ≡ n * 96
    → parts (n + m) 96 (bytes ++ rest) ≡ parts n 96 bytes ++ parts m 96 rest
parts_join zero m [] rest size = let k_is : 0 + m ≡ m = omega arith in ap (λ k. parts k 96 rest) k_is
parts_join zero m (x ∷ bytes) rest size = let none : length (x ∷ bytes) ≡ 0 = omega (arith, size) in
    absurd (omega (arith, none))
parts_join (suc n) m bytes rest size =
    let k_is : suc n + m ≡ suc (n + m) = omega arith in
    let fits : 96 ≤ length bytes = omega (arith, size) in
    ap (λ k. parts k 96 (bytes ++ rest)) k_is
    ∙ ap₂ (λ x (xs : List (List ℕ)). x ∷ xs) (take-append-le 96 bytes rest fits)
    (ap (parts (n + m) 96) (drop-append-le 96 bytes rest fits)
    ∙ parts_join n m (drop 96 bytes) rest (omega (arith, size, length-drop 96 bytes)))

drop_join : (k : ℕ) (xs ys : List (List ℕ)) → drop k (xs ++ ys) ≡ drop k xs ++ drop (k - length xs) ys
drop_join zero xs ys = let none : 0 - length xs ≡ 0 = omega arith in ap (λ k. xs ++ drop k ys) (sym none)
drop_join (suc k) [] ys = let same : suc k - 0 ≡ suc k = omega arith in ap (λ j. drop j ys) (sym same)
drop_join (suc k) (x ∷ xs) ys = let less : suc k - suc (length xs) ≡ k - length xs = omega arith in
    drop_join k xs ys ∙ ap (λ j. drop k xs ++ drop j ys) (sym less)

flat_both : (xs ys : List (List ℕ))
    → flat_map symbols_of (xs ++ ys) ≡ flat_map symbols_of xs ++ flat_map symbols_of ys
flat_both [] ys = refl
flat_both (x ∷ xs) ys =
    ap (λ (l : List ℕ). symbols_of x ++ l) (flat_both xs ys)
    ∙ sym (append_assoc (symbols_of x) (flat_map symbols_of xs) (flat_map symbols_of ys))

symbols_join : (lead_in n m : ℕ) (bytes rest : List ℕ) → length bytes ≡ n * 96 → length rest ≡ m * 96
    → program_symbols Raw (bytes ++ rest) lead_in
    ≡ program_symbols Raw bytes lead_in ++ program_symbols Raw rest (lead_in - n)
symbols_join lead_in n m bytes rest size size' =
    let whole_size : length (bytes ++ rest) ≡ (n + m) * 96 =
    omega (arith, length-append bytes rest, size, size') in
    symbols_are lead_in (n + m) (bytes ++ rest) (whole_taken Raw (n + m) (bytes ++ rest) whole_size)
    ∙ ap (λ (us : List (List ℕ)). flat_map symbols_of (drop lead_in us)) (parts_join n m bytes rest size)
    ∙ ap (flat_map symbols_of) (drop_join lead_in (parts n 96 bytes) (parts m 96 rest)
    ∙ ap (λ k. drop lead_in (parts n 96 bytes) ++ drop (lead_in - k) (parts m 96 rest))
    (length-units_of 96 n bytes))
    ∙ flat_both (drop lead_in (parts n 96 bytes)) (drop (lead_in - n) (parts m 96 rest))
    ∙ ap₂ (λ (x y : List ℕ). x ++ y) (sym (symbols_are lead_in n bytes (whole_taken Raw n bytes size)))
    (sym (symbols_are (lead_in - n) m rest (whole_taken Raw m rest size')))

bad_both : (one other : List (Option (List ℕ))) → bad_count (one ++ other) ≡ bad_count one + bad_count other
bad_both [] other = omega arith
bad_both (x ∷ one) other = omega (arith, count_more x (one ++ other), count_more x one, bad_both one other)

module _ (bytes rest : List ℕ) (lead_in time bad n m : ℕ) (c : Checkpoint) (now : Standing)
    (size : length bytes ≡ n * 96) (size' : length rest ≡ m * 96) (saved : IsCheckpointOf bytes lead_in c)
    (not_later : c.program ≤ time) (gone : IsGoneOn c time rest now bad) where
  abbrev early : List ℕ
  early = program_symbols Raw bytes lead_in

  abbrev late : List ℕ
  late = program_symbols Raw rest (lead_in - n)

  abbrev kept_words : ℕ
  kept_words = whole_packs c.program

  blocks : length bytes / 96 ≡ n
  blocks = units_in Raw n bytes (whole_taken Raw n bytes size)

  program_is : c.program ≡ n - lead_in
  program_is = saved.program_is ∙ ap (λ k. k - lead_in) blocks

  to_come_is : c.to_come ≡ lead_in - n
  to_come_is = saved.to_come_is ∙ ap (λ k. lead_in - k) blocks

  early_count : length early ≡ 96 * c.program
  early_count =
      symbols_count lead_in n bytes (whole_taken Raw n bytes size) ∙ ap (λ k. 96 * k) (sym program_is)

  late_count : length late ≡ 96 * (m - (lead_in - n))
  late_count = symbols_count (lead_in - n) m rest (whole_taken Raw m rest size')

  found_count : length saved.found ≡ kept_words
  found_count = omega (arith, saved.recovered.count, early_count)

  later_count : length gone.found ≡ whole_packs (c.program + (m - (lead_in - n))) - kept_words
  later_count =
      gone.count
      ∙ ap₂ (λ a b. whole_packs (c.program + (a - b)) - kept_words)
      (units_in Raw m rest (whole_taken Raw m rest size')) to_come_is

  slots_are : drop (empty_symbols c.program) c.slots ≡ drop (24 * kept_words) early
  slots_are =
      let length_zeros : length (replicate {A = ℕ} 168 0) ≡ 168 = refl in
      let whole_drop : length early + empty_symbols c.program
      ≡ length (replicate {A = ℕ} 168 0) + 24 * kept_words =
      omega (arith, early_count) in
      ap (drop (empty_symbols c.program)) saved.slots_are
      ∙ drop-drop (empty_symbols c.program) (length early) (replicate 168 0 ++ early)
      ∙ ap (λ k. drop k (replicate 168 0 ++ early)) whole_drop
      ∙ drop-append-add (replicate 168 0) early (24 * kept_words)

  resumed_is : resumed_symbols c rest ≡ drop (24 * kept_words) (early ++ late)
  resumed_is =
      ap₂ (λ (x y : List ℕ). x ++ y) slots_are (ap (program_symbols Raw rest) to_come_is)
      ∙ sym (drop-append-le (24 * kept_words) early late (omega (arith, early_count)))

  abbrev found : List (Option (List ℕ))
  found = saved.found ++ gone.found

  each_found : (k : ℕ) → k < length found → IsFinding (word_of (early ++ late) k) (get_or found k None)
  each_found k lt =
      elim (leb_tells kept_words k) [
        | inl past ↦
            let j_is : kept_words + (k - kept_words) ≡ k = omega (arith, past.1) in
            let entry : get_or found k None ≡ get_or gone.found (k - kept_words) None =
            get_or-append_right saved.found gone.found kept_words k None found_count past.1 in
            let word : word_of (early ++ late) k ≡ word_of (resumed_symbols c rest) (k - kept_words) =
            ap (word_of (early ++ late)) (sym j_is)
            ∙ late_word (early ++ late) kept_words (k - kept_words)
            ∙ ap (λ (l : List ℕ). word_of l (k - kept_words)) (sym resumed_is) in
            subst (λ (w : List ℕ). IsFinding w (get_or found k None)) (sym word) (subst
            (IsFinding (word_of (resumed_symbols c rest) (k - kept_words))) (sym entry) (gone.each
            (k - kept_words) (omega (arith, lt, length-append saved.found gone.found, found_count, past.1))))
        | inr before ↦
            let small : k < kept_words = omega (arith, before.1) in
            let entry : get_or found k None ≡ get_or saved.found k None =
            get_or_append_left saved.found gone.found None k (omega (arith, small, found_count)) in
            let word : word_of (early ++ late) k ≡ word_of early k =
            early_word early late k (λ i lt'. omega (arith, small, early_count, swapped-lt i lt')) in
            subst (λ (w : List ℕ). IsFinding w (get_or found k None)) (sym word) (subst
            (IsFinding (word_of early k)) (sym entry)
            (saved.recovered.each k (omega (arith, small, early_count))))
      ]

  recovered : IsRecovered Raw (early ++ late) found
  recovered =
      let many : whole_packs (length (early ++ late) / 96) ≡ length found = omega (
        arith,
        length-append early late,
        early_count,
        late_count,
        length-append saved.found gone.found,
        found_count,
        later_count,
      ) in
      record { count = sym many; each = λ k lt. each_found k (omega (arith, lt, many)) }

  cut : take (whole_packs time) found ≡ saved.found ++ take (packs_until c time) gone.found
  cut =
      let whole_time : whole_packs time ≡ length saved.found + packs_until c time =
      omega (arith, found_count, not_later) in
      ap (λ k. take k found) whole_time ∙ take-append-add saved.found gone.found (packs_until c time)

  pub whole_viewed : IsViewed (moment Raw lead_in time) (bytes ++ rest) now bad
  whole_viewed = record {
    found = found;
    recovered =
        subst (λ (s : List ℕ). IsRecovered Raw s found) (sym (symbols_join lead_in n m bytes rest size size'))
        recovered;
    instrs = saved.instrs ++ gone.instrs;
    shown =
        subst (λ (f : List (Option (List ℕ))). AreMeant f (saved.instrs ++ gone.instrs)) (sym cut)
        (meant_both saved.found (take (packs_until c time) gone.found) saved.instrs gone.instrs saved.meant
        gone.shown);
    stands =
        gone.stands
        ∙ ap (λ (now : Standing). standing_after now gone.instrs) saved.stands
        ∙ sym (in_turn blank saved.instrs gone.instrs);
    bad_is =
        gone.bad_is
        ∙ ap (λ b. b + bad_count (take (packs_until c time) gone.found)) saved.bad_is
        ∙ sym (ap bad_count cut ∙ bad_both saved.found (take (packs_until c time) gone.found));
  }

pub resumed_whole : (bytes rest : List ℕ) (lead_in time bad : ℕ) (c : Checkpoint) (now : Standing)
    → length bytes % 96 ≡ 0 → length rest % 96 ≡ 0 → IsCheckpointOf bytes lead_in c → c.program ≤ time
    → IsGoneOn c time rest now bad
    → IsViewed (moment Raw lead_in time) (bytes ++ rest) now bad
resumed_whole bytes rest lead_in time bad c now size size' saved not_later gone =
    whole_viewed bytes rest lead_in time bad (length bytes / 96) (length rest / 96) c now
    (omega (arith, size)) (omega (arith, size')) saved not_later gone
