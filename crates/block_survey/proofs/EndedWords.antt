-- The blocks of a stream, and the words that end with each.
use Rattle.std.proofs.Common.{◌≡◌, ℕ, zero, suc, ◌+◌, ◌-◌, ◌*◌, ◌/◌, ◌<◌, ◌≤◌, List, [], ◌∷◌, ◌++◌, length, get_or, map, take, drop, Some, None, refl, sym, ap, ap₂, ◌∙◌, arith, append-nil, length-append, length-drop, length-take-le}
use Rattle.std.specs.declared.option.Option.{Option}
use Rattle.std.specs.List.{range_with_len, flat_map}
use Rattle.std.proofs.lemmas.List.{length-map, get_or-map, drop-take, drop-drop, take_more, append_assoc, get_or_append_left, get_or-append-add, take-append-drop}
use Rattle.std.proofs.lemmas.List.FromFn.{length-map-range_with_len, get_or-map-range_with_len, fill_by_all}
use Rattle.arrayvec.specs.ArrayVec.{ArrayVec}
use Rattle.bit_lists.specs.Counting.{below, parts, whole_parts}
use Rattle.cdg_io.specs.Run.{give, run_state, run_gives}
use Rattle.cdg_io.proofs.Runs.{run_state-append, run_gives-append}
use Rattle.raw_subcode.specs.Channels.{unit_size, block_of, blocks_of, symbols_of, program_symbols}
use Rattle.raw_subcode.specs.declared.form.Form.{Form}
use Rattle.raw_subcode.specs.declared.form.Form.TheVariants.{Raw, Sector, Cooked}
use Rattle.rw_interleave.specs.Stream.{word_count, form_word}
use Rattle.stream_stages.specs.Steps.{fresh_words, slots_of, words_next, words_give}
use Rattle.stream_stages.specs.declared.block_words.BlockWords.{BlockWords}
use Rattle.stream_stages.proofs.Slots.{Sized, sized_drop, all_slots_sized, all_slots_together, length-all_slots}
use Rattle.stream_stages.proofs.FormWords.{words_are}
use Rattle.stream_stages.proofs.StageRuns.{all_items, words_run}
use Rattle.stream_stages.proofs.Conversion.{length-units_of, units_sized, blocks_sized}
use Rattle.block_survey.specs.Rows.{ended_words, words_with_block}

-- ---- the places of the blocks

-- part b of a list
part_at : (count size : ℕ) (xs : List ℕ) (b : ℕ) → b < count
    → get_or (parts count size xs) b [] ≡ take size (drop (size * b) xs)
part_at zero size xs b lt = absurd (omega arith)
part_at (suc count) size xs zero lt = let none : size * 0 ≡ 0 = omega arith in
    ap (λ n. take size (drop n xs)) (sym none)
part_at (suc count) size xs (suc b) lt =
    part_at count size (drop size xs) b (omega arith)
    ∙ ap (take size) (drop-drop (size * b) size xs ∙ ap (λ n. drop n xs) (omega arith))

least_size : (form : Form) → 96 ≤ unit_size form
least_size Raw = omega arith
least_size Sector = omega arith
least_size Cooked = omega arith

pub length-blocks : (form : Form) (bytes : List ℕ)
    → length (blocks_of form bytes) ≡ length bytes / unit_size form
length-blocks form bytes =
    length-map (whole_parts (unit_size form) bytes) (block_of form)
    ∙ length-units_of (unit_size form) (length bytes / unit_size form) bytes

pub block_there : (form : Form) (bytes : List ℕ) (b : ℕ) → b < length bytes / unit_size form
    → get_or (blocks_of form bytes) b [] ≡ take 96 (drop (unit_size form * b + unit_size form - 96) bytes)
block_there form bytes b lt =
    let size : ℕ = unit_size form in
    let more : 96 ≤ size = least_size form in
    let whole : size ≡ (size - 96) + 96 = omega (arith, more) in
    let there : size * b + (size - 96) ≡ size * b + size - 96 = omega (arith, more) in
    get_or-map (block_of form) (whole_parts size bytes) b [] []
    (omega (arith, lt, length-units_of size (length bytes / size) bytes))
    ∙ ap (block_of form) (part_at (length bytes / size) size bytes b lt)
    ∙ ap (λ n. drop (size - 96) (take n (drop (size * b) bytes))) whole
    ∙ drop-take (size - 96) 96 (drop (size * b) bytes)
    ∙ ap (take 96) (drop-drop (size - 96) (size * b) bytes ∙ ap (λ n. drop n bytes) there)

-- ---- the words that come with a block

items-append : (us vs : List (ArrayVec (List ℕ))) → all_items (us ++ vs) ≡ all_items us ++ all_items vs
items-append [] vs = refl
items-append (u ∷ us) vs =
    ap (λ l. u.items ++ l) (items-append us vs) ∙ sym (append_assoc u.items (all_items us) (all_items vs))

items_given : (o : Option (ArrayVec (List ℕ))) (rest : List (ArrayVec (List ℕ)))
    → all_items (give o rest) ≡ words_with_block o ++ all_items rest
items_given (Some words) rest = refl
items_given None rest = refl

module _ (form : Form) (lead_in : ℕ) where
  -- the words that come with some blocks
  abbrev words_with : List (List ℕ) → List (List ℕ)
  words_with blocks = all_items (run_gives words_next words_give (fresh_words form lead_in) blocks)

  -- the state after them
  abbrev pub after : List (List ℕ) → BlockWords
  after blocks = run_state words_next (fresh_words form lead_in) blocks

  words_with-append : (xs : List (List ℕ)) (block : List ℕ) (ys : List (List ℕ))
      → words_with (xs ++ block ∷ ys)
      ≡ words_with xs ++ (words_with_block (words_give (after xs) block)
      ++ all_items (run_gives words_next words_give (words_next (after xs) block) ys))
  words_with-append xs block ys =
      ap all_items (run_gives-append words_next words_give (fresh_words form lead_in) xs (block ∷ ys))
      ∙ items-append (run_gives words_next words_give (fresh_words form lead_in) xs) _
      ∙ ap (λ (l : List (List ℕ)). words_with xs ++ l) (items_given (words_give (after xs) block) _)

  words_with_are : (blocks : List (List ℕ)) → Sized 96 blocks
      → words_with blocks
      ≡ map (form_word form (flat_map symbols_of (drop lead_in blocks)))
      (below (word_count form (length blocks - lead_in)))
  words_with_are blocks sized =
      let program : List (List ℕ) = drop lead_in blocks in
      let there : Sized 96 program = sized_drop 96 lead_in blocks sized in
      words_run form lead_in [] blocks
      ∙ words_are form (flat_map slots_of program) (length program) (all_slots_sized program there)
      (length-all_slots program)
      ∙ ap₂ (λ (symbols : List ℕ) n. map (form_word form symbols) (below (word_count form n)))
      (all_slots_together program there) (length-drop lead_in blocks)

  length-words_with : (blocks : List (List ℕ)) → Sized 96 blocks
      → length (words_with blocks) ≡ word_count form (length blocks - lead_in)
  length-words_with blocks sized =
      ap length (words_with_are blocks sized)
      ∙ length-map-range_with_len (form_word form (flat_map symbols_of (drop lead_in blocks))) 0 _

-- a map over numbers from one on
map_from : {X : Type 0} (f : ℕ → X) (m a n : ℕ)
    → map (λ j. f (m + j)) (range_with_len a n) ≡ map f (range_with_len (m + a) n)
map_from f m a zero = refl
map_from f m a (suc n) =
    let next : m + (a + 1) ≡ m + a + 1 = omega arith in
    ap (λ l. f (m + a) ∷ l) (map_from f m (a + 1) n ∙ ap (λ k. map f (range_with_len k n)) next)

-- the middle part of a mapped list of numbers is the map of its own numbers
middle : {X : Type 0} (f : ℕ → X) (n : ℕ) (xs ys zs : List X) (d : X) → map f (below n) ≡ xs ++ (ys ++ zs)
    → ys ≡ map f (range_with_len (length xs) (length ys))
middle {X = X} f n xs ys zs d e =
    let all : length xs + (length ys + length zs) ≡ n = omega
    (arith, ap length e, length-map-range_with_len f 0 n, length-append xs (ys ++ zs), length-append ys zs) in
    let at : (k : ℕ) → k < length ys → get_or ys k d ≡ f (length xs + k) = λ k lt.
    sym (get_or_append_left ys zs d k lt)
    ∙ sym (get_or-append-add xs (ys ++ zs) k d)
    ∙ ap (λ (l : List X). get_or l (length xs + k) d) (sym e)
    ∙ get_or-map-range_with_len f 0 n (length xs + k) (length xs + k) d (omega (arith, lt, all))
    (omega arith) in
    let zero_more : length xs + 0 ≡ length xs = omega arith in
    fill_by_all (λ k. f (length xs + k)) ys (length ys) d refl at
    ∙ map_from f (length xs) 0 (length ys)
    ∙ ap (λ k. map f (range_with_len k (length ys))) zero_more

sized_take : (size n : ℕ) (xs : List (List ℕ)) → Sized size xs → Sized size (take n xs)
sized_take size zero xs all = tt
sized_take size (suc n) [] all = tt
sized_take size (suc n) (x ∷ xs) all = (all.0, sized_take size n xs all.1)

-- a list is the elements before one of its elements, this element, and the rest
around : (xs : List (List ℕ)) (b : ℕ) → b < length xs → xs ≡ take b xs ++ (get_or xs b [] ∷ drop (b + 1) xs)
around xs b lt =
    sym (take-append-drop (b + 1) xs)
    ∙ ap (λ (l : List (List ℕ)). l ++ drop (b + 1) xs) (take_more xs b [] lt)
    ∙ append_assoc (take b xs) (get_or xs b [] ∷ []) (drop (b + 1) xs)

pub words_there : (form : Form) (lead_in : ℕ) (bytes : List ℕ) (b : ℕ) → b < length bytes / unit_size form
    → words_with_block
    (words_give (after form lead_in (take b (blocks_of form bytes))) (get_or (blocks_of form bytes) b []))
    ≡ ended_words form lead_in bytes b
words_there form lead_in bytes b lt =
    let size : ℕ = unit_size form in
    let blocks : List (List ℕ) = blocks_of form bytes in
    let block : List ℕ = get_or blocks b [] in
    let before : List (List ℕ) = take b blocks in
    let many : length blocks ≡ length bytes / size = length-blocks form bytes in
    let sized : Sized 96 blocks =
    blocks_sized form (whole_parts size bytes) (units_sized size (length bytes / size) bytes (omega arith)) in
    let words : List (List ℕ) = words_with_block (words_give (after form lead_in before) block) in
    let so_far : length before ≡ b = length-take-le b blocks (omega (arith, lt, many)) in
    let old : length (words_with form lead_in before) ≡ word_count form (b - lead_in) =
    length-words_with form lead_in before
    (sized_take 96 b blocks sized) ∙ ap (λ n. word_count form (n - lead_in)) so_far in
    let next : take (b + 1) blocks ≡ before ++ block ∷ [] = take_more blocks b [] (omega (arith, lt, many)) in
    let new : length (words_with form lead_in (before ++ block ∷ [])) ≡ word_count form (suc b - lead_in) =
    ap (λ (l : List (List ℕ)). length (words_with form lead_in l)) (sym next)
    ∙ length-words_with form lead_in (take (b + 1) blocks) (sized_take 96 (b + 1) blocks sized)
    ∙ ap (λ n. word_count form (n - lead_in))
    (length-take-le (b + 1) blocks (omega (arith, lt, many)) ∙ omega arith) in
    let grown : length (words_with form lead_in (before ++ block ∷ []))
    ≡ length (words_with form lead_in before) + length words =
    ap length (words_with-append form lead_in before block [])
    ∙ length-append (words_with form lead_in before) (words ++ [])
    ∙ ap (λ (l : List (List ℕ)). length (words_with form lead_in before) + length l) (append-nil words) in
    let all =
    sym (words_with_are form lead_in blocks sized)
    ∙ ap (words_with form lead_in) (around blocks b (omega (arith, lt, many)))
    ∙ words_with-append form lead_in before block (drop (b + 1) blocks) in
    let size_is : length words ≡ word_count form (suc b - lead_in) - word_count form (b - lead_in) =
    omega (arith, old, new, grown) in
    middle (form_word form (program_symbols form bytes lead_in)) (word_count form (length blocks - lead_in))
    (words_with form lead_in before) words _ [] all
    ∙ ap₂ (λ m k. map (form_word form (program_symbols form bytes lead_in)) (range_with_len m k)) old size_is

pub after_more : (form : Form) (lead_in : ℕ) (bytes : List ℕ) (b : ℕ) → b < length bytes / unit_size form
    → words_next (after form lead_in (take b (blocks_of form bytes))) (get_or (blocks_of form bytes) b [])
    ≡ after form lead_in (take (b + 1) (blocks_of form bytes))
after_more form lead_in bytes b lt =
    let blocks : List (List ℕ) = blocks_of form bytes in
    sym (ap (after form lead_in) (take_more blocks b [] (omega (arith, lt, length-blocks form bytes)))
    ∙ run_state-append words_next (fresh_words form lead_in) (take b blocks) (get_or blocks b [] ∷ []))
