-- The rows of a stream add up to the counts of the whole stream.
use Rattle.std.proofs.Common.{◌≡◌, ℕ, zero, suc, ◌+◌, ◌-◌, ◌/◌, ◌<◌, ◌≤◌, Bool, false, List, [], ◌∷◌, ◌++◌, length, get_or, map, drop, Some, None, refl, sym, ap, ap₂, ◌∙◌, arith, length-drop, Result, Ok, Err, set, take}
use Rattle.std.specs.Prelude.{if◌then◌else◌, nat_le, count_by, sum_by, is_none, is_ok, is_err, min}
use Rattle.std.specs.declared.option.Option.{Option}
use Rattle.std.specs.List.{range_with_len, zip}
use Rattle.std.proofs.lemmas.List.{ext_get_or, length-map, get_or-map, take_more_set, drop-set-lt, drop-drop}
use Rattle.std.proofs.lemmas.List.Sums.{sum_by-cons}
use Rattle.std.proofs.lemmas.List.FromFn.{length-map-range_with_len, get_or-map-range_with_len, fill_by_all, sum_by-map-range_with_len_more, map-range_with_len_more}
use Rattle.bit_lists.specs.Counting.{below, whole_parts}
use Rattle.rw_code.specs.Finding.{finding}
use Rattle.rw_code.proofs.Finding.{only_finding}
use Rattle.raw_subcode.specs.Channels.{unit_size, blocks_of, program_symbols, q_bits, channel_bit}
use Rattle.raw_subcode.specs.declared.form.Form.{Form}
use Rattle.raw_subcode.specs.declared.form.Form.TheVariants.{Raw, Sector, Cooked}
use Rattle.rw_interleave.specs.Stream.{word_count, form_word, IsRecovered, bad_count}
use Rattle.rw_interleave.proofs.Recovery.{form_words}
use Rattle.q_channel.specs.QList.{q_blocks, AreQReadings}
use Rattle.q_channel.specs.ReadingOf.{reading_of}
use Rattle.q_channel.proofs.ReadingLaws.{only_reading}
use Rattle.q_channel.specs.declared.frame.QFrame.{QFrame}
use Rattle.q_channel.specs.declared.frame.QFrame.TheVariants.{Program, Toc, Catalogue, Isrc, Other}
use Rattle.q_channel.specs.declared.frame.TocPoint.TheVariants.{Track, First, Last, LeadOut}
use Rattle.q_channel.specs.declared.frame.QFault.{QFault}
use Rattle.q_channel.specs.declared.frame.QFault.TheVariants.{BadCrc, BadField}
use Rattle.stream_stages.specs.Check.{has_wrong, stream_lines, wrong_lines, pack_count_lines, frame_count_lines, found_passes, is_idle, is_graphics, is_unknown, is_foreign, check_text, IsCheckListed}
use Rattle.stream_stages.proofs.Slots.{Sized, sized_drop, symbols_small, length-all_symbols}
use Rattle.stream_stages.proofs.Conversion.{units_sized, blocks_sized}
use Rattle.block_survey.specs.Rows.{row_kind, row_of_block, ended_words, survey_rows, is_frame_row, is_refusal_row, AddUpTo}
use Rattle.block_survey.specs.declared.surveying.BlockRow.{BlockRow}
use Rattle.block_survey.proofs.EndedWords.{length-blocks}

-- ---- lists made of numbers

-- tests that agree at each number count the same
same_tests : {A B : Type 0} (p : A → Bool) (q : B → Bool) (g : ℕ → A) (h : ℕ → B)
    → ((b : ℕ) → p (g b) ≡ q (h b)) → (a n : ℕ)
    → count_by p (map g (range_with_len a n)) ≡ count_by q (map h (range_with_len a n))
same_tests p q g h same a zero = refl
same_tests {A = A} {B = B} p q g h same a (suc n) =
    sum_by-cons (λ (x : A). if p x then 1 else 0) (g a) (map g (range_with_len (a + 1) n))
    ∙ ap₂ (λ (t : Bool) k. (if t then 1 else 0) + k) (same a) (same_tests p q g h same (a + 1) n)
    ∙ sym (sum_by-cons (λ (x : B). if q x then 1 else 0) (h a) (map h (range_with_len (a + 1) n)))

no_tests : {A : Type 0} (p : A → Bool) (g : ℕ → A) → ((b : ℕ) → p (g b) ≡ false) → (a n : ℕ)
    → count_by p (map g (range_with_len a n)) ≡ 0
no_tests p g none a zero = refl
no_tests {A = A} p g none a (suc n) =
    sum_by-cons (λ (x : A). if p x then 1 else 0) (g a) (map g (range_with_len (a + 1) n))
    ∙ ap₂ (λ (t : Bool) k. (if t then 1 else 0) + k) (none a) (no_tests p g none (a + 1) n)

-- a count in two parts
two_parts : {A : Type 0} (p : A → Bool) (f : ℕ → A) (m k : ℕ)
    → count_by p (map f (below (m + k)))
    ≡ count_by p (map f (below m)) + count_by p (map f (range_with_len m k))
two_parts p f m zero =
    let none : m + 0 ≡ m = omega arith in
    ap (λ n. count_by p (map f (below n))) none ∙ omega arith
two_parts {A = A} p f m (suc k) =
    let one : A → ℕ = λ (x : A). if p x then 1 else 0 in
    let next : m + suc k ≡ (m + k) + 1 = omega arith in
    let last : suc k ≡ k + 1 = omega arith in
    let whole : count_by p (map f (below (m + suc k)))
    ≡ count_by p (map f (below (m + k))) + one (f (m + k)) =
    ap (λ n. count_by p (map f (below n))) next
    ∙ sum_by-map-range_with_len_more one f 0 (m + k) (m + k) (omega arith) in
    let part : count_by p (map f (range_with_len m (suc k)))
    ≡ count_by p (map f (range_with_len m k)) + one (f (m + k)) =
    ap (λ n. count_by p (map f (range_with_len m n))) last
    ∙ sum_by-map-range_with_len_more one f m k (m + k) refl in
    omega (arith, whole, part, two_parts p f m k)

-- ---- words

none_before : (form : Form) (lead_in : ℕ) → word_count form (0 - lead_in) ≡ 0
none_before Raw lead_in = omega arith
none_before Sector lead_in = omega arith
none_before Cooked lead_in = omega arith

grows : (form : Form) (n lead_in : ℕ) → word_count form (n - lead_in) ≤ word_count form (suc n - lead_in)
grows Raw n lead_in = omega arith
grows Sector n lead_in = omega arith
grows Cooked n lead_in = omega arith

zip_found : (words : List (List ℕ)) → map (λ w. (w, finding w)) words ≡ zip words (map finding words)
zip_found [] = refl
zip_found (w ∷ words) = ap (λ (l : List (List ℕ × Option (List ℕ))). (w, finding w) ∷ l) (zip_found words)

count-map : {A B : Type 0} (p : B → Bool) (g : A → B) (xs : List A)
    → count_by p (map g xs) ≡ count_by (λ x. p (g x)) xs
count-map p g [] = refl
count-map {A = A} {B = B} p g (x ∷ xs) =
    sum_by-cons (λ (y : B). if p y then 1 else 0) (g x) (map g xs)
    ∙ ap (λ k. (if p (g x) then 1 else 0) + k) (count-map p g xs)
    ∙ sym (sum_by-cons (λ (y : A). if p (g y) then 1 else 0) x xs)

module _ (form : Form) (lead_in : ℕ) (bytes : List ℕ) where
  abbrev word_at : ℕ → List ℕ
  word_at n = form_word form (program_symbols form bytes lead_in) n

  abbrev rows_of : ℕ → List BlockRow
  rows_of n = map (row_of_block form lead_in bytes) (below n)

  -- the sums of a field of the first rows
  sums : (field : BlockRow → ℕ) (test : List ℕ → Bool)
      → ((b : ℕ)
      → field (row_of_block form lead_in bytes b) ≡ count_by test (ended_words form lead_in bytes b))
      → (n : ℕ)
      → sum_by field (rows_of n) ≡ count_by test (map word_at (below (word_count form (n - lead_in))))
  sums field test is zero = sym (ap (λ k. count_by test (map word_at (below k))) (none_before form lead_in))
  sums field test is (suc n) =
      let old : ℕ = word_count form (n - lead_in) in
      let new : ℕ = word_count form (suc n - lead_in) in
      let all : new ≡ old + (new - old) = omega (arith, grows form n lead_in) in
      let next : suc n ≡ n + 1 = omega arith in
      let more : sum_by field (rows_of (suc n))
      ≡ sum_by field (rows_of n) + field (row_of_block form lead_in bytes n) =
      ap (λ k. sum_by field (rows_of k)) next
      ∙ sum_by-map-range_with_len_more field (row_of_block form lead_in bytes) 0 n n (omega arith) in
      more
      ∙ ap₂ (λ a b. a + b) (sums field test is n) (is n)
      ∙ sym (two_parts test word_at old (new - old))
      ∙ ap (λ k. count_by test (map word_at (below k))) (sym all)

  sized : Sized 96 (blocks_of form bytes)
  sized =
      blocks_sized form (whole_parts (unit_size form) bytes)
      (units_sized (unit_size form) (length bytes / unit_size form) bytes (omega arith))

  program_size : length (program_symbols form bytes lead_in) / 96 ≡ length (blocks_of form bytes) - lead_in
  program_size = omega (
    arith,
    length-all_symbols (drop lead_in (blocks_of form bytes))
        (sized_drop 96 lead_in (blocks_of form bytes) sized),
    length-drop lead_in (blocks_of form bytes),
  )

  -- the findings for all words
  found_is : (found : List (Option (List ℕ))) → IsRecovered form (program_symbols form bytes lead_in) found
      → found ≡ map finding (map word_at (below (word_count form (length (blocks_of form bytes) - lead_in))))
  found_is found r =
      let symbols : List ℕ = program_symbols form bytes lead_in in
      let count : ℕ = word_count form (length (blocks_of form bytes) - lead_in) in
      let words : List (List ℕ) = map word_at (below count) in
      let many : length words ≡ count = length-map-range_with_len word_at 0 count in
      let size : length found ≡ count = r.count ∙ ap (word_count form) program_size in
      ext_get_or None found (map finding words) (size ∙ sym (length-map words finding ∙ many)) (λ n lt.
      let within : n < word_count form (length symbols / 96) = omega (arith, lt, r.count) in
      only_finding (word_at n)
      (form_words form symbols n (symbols_small (drop lead_in (blocks_of form bytes)))) _ (r.each n within)
      ∙ ap finding
      (sym (get_or-map-range_with_len word_at 0 count n n [] (omega (arith, lt, size)) (omega arith)))
      ∙ sym (get_or-map finding words n [] None (omega (arith, lt, size, many))))

-- ---- frames

frame_kinds : (reading : Result QFrame QFault) → nat_le (row_kind (Some reading)) 7 ≡ is_ok reading
frame_kinds (Ok (Program control track index time absolute)) = refl
frame_kinds (Ok (Toc control (Track number start) time)) = refl
frame_kinds (Ok (Toc control (First track kind) time)) = refl
frame_kinds (Ok (Toc control (Last track) time)) = refl
frame_kinds (Ok (Toc control (LeadOut start) time)) = refl
frame_kinds (Ok (Catalogue control digits frame)) = refl
frame_kinds (Ok (Isrc control code frame)) = refl
frame_kinds (Ok (Other control adr rest)) = refl
frame_kinds (Err (BadField bit)) = refl
frame_kinds (Err BadCrc) = refl

refusal_kinds : (reading : Result QFrame QFault) → nat_le 254 (row_kind (Some reading)) ≡ is_err reading
refusal_kinds (Ok (Program control track index time absolute)) = refl
refusal_kinds (Ok (Toc control (Track number start) time)) = refl
refusal_kinds (Ok (Toc control (First track kind) time)) = refl
refusal_kinds (Ok (Toc control (Last track) time)) = refl
refusal_kinds (Ok (Toc control (LeadOut start) time)) = refl
refusal_kinds (Ok (Catalogue control digits frame)) = refl
refusal_kinds (Ok (Isrc control code frame)) = refl
refusal_kinds (Ok (Other control adr rest)) = refl
refusal_kinds (Err (BadField bit)) = refl
refusal_kinds (Err BadCrc) = refl

abbrev reading_at : List ℕ → Result QFrame QFault
reading_at block = reading_of (q_bits block)

readings_are : (blocks : List (List ℕ)) → Sized 96 blocks → (readings : List (Result QFrame QFault))
    → AreQReadings blocks readings
    → readings ≡ map reading_at blocks
readings_are [] all readings are = are
readings_are (block ∷ rest) all [] are = absurd are
readings_are (block ∷ rest) all (reading ∷ readings) are =
    ap₂ (λ (r : Result QFrame QFault) (l : List (Result QFrame QFault)). r ∷ l)
    (only_reading (q_bits block) reading (length-map block (channel_bit 1) ∙ all.0) are.0)
    (readings_are rest all.1 readings are.1)

-- the readings of blocks by their numbers
readings_by_number : (blocks : List (List ℕ))
    → map reading_at blocks ≡ map (λ b. reading_at (get_or blocks b [])) (below (length blocks))
readings_by_number blocks =
    fill_by_all (λ b. reading_at (get_or blocks b [])) (map reading_at blocks) (length blocks) (Err BadCrc)
    (length-map blocks reading_at) (λ b lt. get_or-map reading_at blocks b [] (Err BadCrc) lt)

-- the number of rows with such a frame is the number of such readings
abbrev CountsFrames : (BlockRow → Bool) → (Result QFrame QFault → Bool) → Form → ℕ → List ℕ
    → List (Result QFrame QFault)
    → Type 0
CountsFrames reported test form lead_in bytes readings =
    count_by test readings
    ≡ count_by reported (map (row_of_block form lead_in bytes) (below (length (blocks_of form bytes))))

by_blocks : (reported : BlockRow → Bool) (test : Result QFrame QFault → Bool) (form : Form) (lead_in : ℕ)
    (bytes : List ℕ) (readings : List (Result QFrame QFault))
    → ((b : ℕ)
    → reported (row_of_block form lead_in bytes b) ≡ test (reading_at (get_or (blocks_of form bytes) b [])))
    → AreQReadings (blocks_of form bytes) readings → CountsFrames reported test form lead_in bytes readings
by_blocks reported test form lead_in bytes readings same are =
    let blocks : List (List ℕ) = blocks_of form bytes in
    ap (count_by test)
    (readings_are blocks (sized form lead_in bytes) readings are ∙ readings_by_number blocks)
    ∙ sym
    (same_tests reported test (row_of_block form lead_in bytes) (λ b. reading_at (get_or blocks b [])) same
    0 (length blocks))

frames_reported : (form : Form) (lead_in : ℕ) (bytes : List ℕ) (readings : List (Result QFrame QFault))
    → AreQReadings (q_blocks form bytes) readings
    → CountsFrames is_frame_row is_ok form lead_in bytes readings
frames_reported Raw lead_in bytes readings are =
    by_blocks is_frame_row is_ok Raw lead_in bytes readings
    (λ b. frame_kinds (reading_at (get_or (blocks_of Raw bytes) b []))) are
frames_reported Sector lead_in bytes readings are =
    by_blocks is_frame_row is_ok Sector lead_in bytes readings
    (λ b. frame_kinds (reading_at (get_or (blocks_of Sector bytes) b []))) are
frames_reported Cooked lead_in bytes readings are =
    ap (count_by is_ok) are
    ∙ sym
    (no_tests is_frame_row (row_of_block Cooked lead_in bytes) (λ b. refl) 0
    (length (blocks_of Cooked bytes)))

refusals_reported : (form : Form) (lead_in : ℕ) (bytes : List ℕ) (readings : List (Result QFrame QFault))
    → AreQReadings (q_blocks form bytes) readings
    → CountsFrames is_refusal_row is_err form lead_in bytes readings
refusals_reported Raw lead_in bytes readings are =
    by_blocks is_refusal_row is_err Raw lead_in bytes readings
    (λ b. refusal_kinds (reading_at (get_or (blocks_of Raw bytes) b []))) are
refusals_reported Sector lead_in bytes readings are =
    by_blocks is_refusal_row is_err Sector lead_in bytes readings
    (λ b. refusal_kinds (reading_at (get_or (blocks_of Sector bytes) b []))) are
refusals_reported Cooked lead_in bytes readings are =
    ap (count_by is_err) are
    ∙ sym (no_tests is_refusal_row (row_of_block Cooked lead_in bytes) (λ b. refl) 0
    (length (blocks_of Cooked bytes)))

-- ---- the lines

same_lines : (before between : List ℕ) (a b c d e f a' b' c' d' e' f' : ℕ) → a ≡ a' → b ≡ b' → c ≡ c' → d ≡ d'
    → e ≡ e' → f ≡ f'
    → before ++ (wrong_lines a b c d ++ (between ++ frame_count_lines e f))
    ≡ before ++ (wrong_lines a' b' c' d' ++ (between ++ frame_count_lines e' f'))
same_lines before between a b c d e f a' b' c' d' e' f' p q r s t u = rw (p, q, r, s, t, u) refl

pub add_up : (form : Form) (lead_in : ℕ) (bytes text : List ℕ) (bad : ℕ)
    → IsCheckListed form lead_in bytes text bad
    → AddUpTo (survey_rows form lead_in bytes) text bad
unfolding check_text
add_up form lead_in bytes text bad listed =
    let n : ℕ = length (blocks_of form bytes) in
    let words : List (List ℕ) = map (word_at form lead_in bytes) (below (word_count form (n - lead_in))) in
    let found : listed.found ≡ map finding words =
    found_is form lead_in bytes listed.found listed.recovered in
    let rows : map (row_of_block form lead_in bytes) (below n) ≡ survey_rows form lead_in bytes =
    ap (λ k. map (row_of_block form lead_in bytes) (below k)) (length-blocks form bytes) in
    let wrong : (k : ℕ)
    → count_by (has_wrong k) (zip words listed.found) ≡ count_by (λ w. has_wrong k (w, finding w)) words =
    λ k.
    ap (λ (l : List (Option (List ℕ))). count_by (has_wrong k) (zip words l)) found
    ∙ ap (count_by (has_wrong k)) (sym (zip_found words))
    ∙ count-map (has_wrong k) (λ w. (w, finding w)) words in
    let bad_words : bad_count listed.found ≡ count_by (λ w. is_none (finding w)) words =
    ap bad_count found ∙ count-map is_none finding words in
    let clean : count_by (has_wrong 0) (zip words listed.found)
    ≡ sum_by (λ row. row.clean) (survey_rows form lead_in bytes) =
    wrong 0
    ∙ sym (sums form lead_in bytes (λ row. row.clean) (λ w. has_wrong 0 (w, finding w)) (λ b. refl) n)
    ∙ ap (sum_by (λ (row : BlockRow). row.clean)) rows in
    let one : count_by (has_wrong 1) (zip words listed.found)
    ≡ sum_by (λ row. row.one) (survey_rows form lead_in bytes) =
    wrong 1
    ∙ sym (sums form lead_in bytes (λ row. row.one) (λ w. has_wrong 1 (w, finding w)) (λ b. refl) n)
    ∙ ap (sum_by (λ (row : BlockRow). row.one)) rows in
    let two : count_by (has_wrong 2) (zip words listed.found)
    ≡ sum_by (λ row. row.two) (survey_rows form lead_in bytes) =
    wrong 2
    ∙ sym (sums form lead_in bytes (λ row. row.two) (λ w. has_wrong 2 (w, finding w)) (λ b. refl) n)
    ∙ ap (sum_by (λ (row : BlockRow). row.two)) rows in
    let none : bad_count listed.found ≡ sum_by (λ row. row.bad) (survey_rows form lead_in bytes) =
    bad_words
    ∙ sym (sums form lead_in bytes (λ row. row.bad) (λ w. is_none (finding w)) (λ b. refl) n)
    ∙ ap (sum_by (λ (row : BlockRow). row.bad)) rows in
    let good : count_by is_ok listed.readings ≡ count_by is_frame_row (survey_rows form lead_in bytes) =
    frames_reported form lead_in bytes listed.readings listed.read ∙ ap (count_by is_frame_row) rows in
    let refused : count_by is_err listed.readings ≡ count_by is_refusal_row
    (survey_rows form lead_in bytes) =
    refusals_reported form lead_in bytes listed.readings listed.read ∙ ap (count_by is_refusal_row) rows in
    record {
      before = stream_lines (min lead_in n) (n - lead_in) (length words);
      between =
          pack_count_lines (count_by (found_passes is_idle) listed.found)
          (count_by (found_passes is_graphics) listed.found)
          (count_by (found_passes is_unknown) listed.found) (count_by (found_passes is_foreign) listed.found);
      text_is = listed.text_is ∙ same_lines _ _ _ _ _ _ _ _ _ _ _ _ _ _ clean one two none good refused;
      bad_is = listed.bad_is ∙ none;
    }

pub one_more : {X : Type 0} (f : ℕ → X) (rows : List X) (b : ℕ) (row : X) → b < length rows
    → take b rows ≡ map f (below b) → row ≡ f b
    → take (b + 1) (set rows b row) ≡ map f (below (b + 1))
one_more {X = X} f rows b row lt done is =
    take_more_set rows b row lt
    ∙ ap (λ (l : List X). l ++ row ∷ []) done
    ∙ ap (λ (r : X). map f (below b) ++ r ∷ []) is
    ∙ sym (map-range_with_len_more f 0 b b (omega arith))

pub one_less : {X : Type 0} (old rows : List X) (b : ℕ) (row : X) → drop b rows ≡ drop b old
    → drop (b + 1) (set rows b row) ≡ drop (b + 1) old
one_less {X = X} old rows b row rest =
    drop-set-lt (b + 1) rows b row (omega arith)
    ∙ sym (drop-drop 1 b rows)
    ∙ ap (λ (l : List X). drop 1 l) rest
    ∙ drop-drop 1 b old
