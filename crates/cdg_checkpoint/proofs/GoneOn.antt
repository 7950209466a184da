-- From the run of the words after a checkpoint to the standing.
use Rattle.std.proofs.Common.{◌≡◌, ℕ, zero, suc, ◌+◌, ◌-◌, ◌*◌, ◌/◌, ◌%◌, ◌<◌, ◌≤◌, List, [], ◌∷◌, ◌++◌, length, get_or, map, take, drop, refl, sym, ap, ap₂, ◌∙◌, subst, arith, length-append, length-drop, None, inl, inr}
use Rattle.std.specs.Prelude.{min}
use Rattle.std.specs.List.{concat, flat_map, range_with_len}
use Rattle.std.proofs.lemmas.Bool.Decides.{leb_tells}
use Rattle.std.proofs.lemmas.List.{length-map, get_or-map, get_or_append_left, get_or-append_right, get_or-drop, map-append, take_all, drop-drop, length-take-le}
use Rattle.std.proofs.lemmas.List.FromFn.{length-map-range_with_len, get_or-map-range_with_len, map-range_with_len_more}
use Rattle.std.proofs.lemmas.List.Folds.{concat-append}
use Rattle.std.proofs.Math.Seq.{take-add}
use Rattle.bit_lists.specs.Counting.{below}
use Rattle.cdg_io.specs.Run.{give, run_state, run_gives}
use Rattle.cdg_io.specs.Pump.{units_of}
use Rattle.cdg_io.proofs.Runs.{then_next_second, run_gives-append}
use Rattle.cdg_io.proofs.Streaming.{IsWhole}
use Rattle.cdg_io.specs.declared.stage.Then.{Then}
use Rattle.rw_code.specs.Codeword.{IsWord}
use Rattle.rw_code.specs.Finding.{IsFinding, finding}
use Rattle.rw_code.proofs.Finding.{finding_is}
use Rattle.rw_interleave.specs.Interleave.{word_of, place}
use Rattle.rw_interleave.specs.Gathering.{gather_next, gather_gives}
use Rattle.rw_interleave.proofs.Gathers.{gathers}
use Rattle.raw_subcode.specs.Channels.{symbols_of, program_symbols}
use Rattle.raw_subcode.specs.declared.form.Form.TheVariants.{Raw}
use Rattle.cdg_screen.specs.Standing.{IsWholeStanding, Standing, standing_after}
use Rattle.cdg_checkpoint.specs.Checkpoint.{Checkpoint}
use Rattle.cdg_checkpoint.specs.Table.{empty_symbols}
use Rattle.stream_stages.specs.Steps.{slots_of, window_next, window_gives, words_next, words_give}
use Rattle.stream_stages.specs.Drawn.{draw_after, painting_next}
use Rattle.stream_stages.specs.declared.block_words.BlockWords.{BlockWords}
use Rattle.stream_stages.specs.declared.painting.Painting.{Painting}
use Rattle.stream_stages.proofs.Slots.{Sized, sized_append, sized_drop, all_slots_sized, all_slots_together, length-all_slots, symbols_small}
use Rattle.stream_stages.proofs.StageRuns.{all_items, words_run}
use Rattle.stream_stages.proofs.Conversion.{units_sized, length-units_of}
use Rattle.stream_stages.proofs.Playing.{units_in}
use Rattle.stream_stages.proofs.Draws.{AreDrawn, instrs_of, are_meant, are_drawn, painting_runs}
use Rattle.stream_stages.proofs.Views.{whole_taken}
use Rattle.cdg_checkpoint.specs.Tracked.{words_drawn}
use Rattle.cdg_checkpoint.specs.Resumed.{IsGoneOn, blocks_after, packs_until, resumed_symbols, saved_slots}
use Rattle.cdg_checkpoint.proofs.SavedStreams.{symbols_are}

-- ---- the saved slots

abbrev slot_at : List ℕ → ℕ → List ℕ
slot_at symbols k = symbols_of (take 24 (drop (24 * k) symbols))

pub run_more : {S I : Type 0} (next : S → I → S) (s : S) (xs : List I) (x : I)
    → run_state next s (xs ++ x ∷ []) ≡ next (run_state next s xs) x
run_more next s [] x = refl
run_more next s (y ∷ xs) x = run_more next (next s y) xs x

pub slots_more : (symbols slot : List ℕ) (a n j : ℕ) (gather new : List (List ℕ)) → a + n ≡ j
    → gather ≡ run_state gather_next [] (map (slot_at symbols) (range_with_len a n))
    → slot ≡ slot_at symbols j
    → new ≡ gather_next gather slot
    → new ≡ run_state gather_next [] (map (slot_at symbols) (range_with_len a (n + 1)))
slots_more symbols slot a n j gather new e before is step =
    step
    ∙ ap₂ gather_next before is
    ∙ sym (run_more gather_next [] (map (slot_at symbols) (range_with_len a n)) (slot_at symbols j))
    ∙ ap (run_state gather_next []) (sym (map-range_with_len_more (slot_at symbols) a n j e))

pub slots_all : (symbols : List ℕ) (kept k m : ℕ) (gather : List (List ℕ)) → kept ≡ m → k ≡ m
    → gather ≡ run_state gather_next [] (map (slot_at symbols) (range_with_len (7 - kept) k))
    → gather ≡ run_state gather_next [] (map (slot_at symbols) (range_with_len (7 - m) m))
slots_all symbols kept k m gather e f h =
    h ∙ ap₂ (λ a n. run_state gather_next [] (map (slot_at symbols) (range_with_len (7 - a) n))) e f

slots_sized : (symbols : List ℕ) (a n : ℕ) → 24 * (a + n) ≤ length symbols
    → Sized 24 (map (slot_at symbols) (range_with_len a n))
slots_sized symbols a zero fits = tt
slots_sized symbols a (suc n) fits = (
  length-map (take 24 (drop (24 * a) symbols)) (λ (byte : ℕ). byte % 64)
      ∙ length-take-le 24 (drop (24 * a) symbols) (omega (arith, length-drop (24 * a) symbols, fits)),
  slots_sized symbols (a + 1) n (omega (arith, fits)),
)

slots_together : (symbols : List ℕ) (a n : ℕ)
    → concat (map (slot_at symbols) (range_with_len a n)) ≡ symbols_of (take (24 * n) (drop (24 * a) symbols))
slots_together symbols a zero = refl
slots_together symbols a (suc n) =
    let next : 24 * a + 24 ≡ 24 * (a + 1) = omega arith in
    let whole : 24 + 24 * n ≡ 24 * suc n = omega arith in
    let rest : drop 24 (drop (24 * a) symbols) ≡ drop (24 * (a + 1)) symbols =
    drop-drop 24 (24 * a) symbols ∙ ap (λ k. drop k symbols) next in
    ap (λ (l : List ℕ). slot_at symbols a ++ l)
    (slots_together symbols (a + 1) n ∙ ap (λ (l : List ℕ). symbols_of (take (24 * n) l)) (sym rest))
    ∙ sym (map-append (λ (byte : ℕ). byte % 64) (take 24 (drop (24 * a) symbols))
    (take (24 * n) (drop 24 (drop (24 * a) symbols))))
    ∙ ap symbols_of
    (sym (take-add 24 (24 * n) (drop (24 * a) symbols)) ∙ ap (λ k. take k (drop (24 * a) symbols)) whole)

small_stay : (symbols : List ℕ) → ((i : ℕ) → get_or symbols i 0 < 64) → symbols_of symbols ≡ symbols
small_stay [] small = refl
small_stay (x ∷ xs) small = let first : x < 64 = small 0 in
    let same : x % 64 ≡ x = omega (arith, first) in
    ap₂ (λ y (ys : List ℕ). y ∷ ys) same (small_stay xs (λ i. small (suc i)))

pub dropped_small : (symbols : List ℕ) (a : ℕ) → ((i : ℕ) → get_or symbols i 0 < 64) → (i : ℕ)
    → get_or (drop a symbols) i 0 < 64
dropped_small symbols a small i = let P : ℕ → Type 0 = λ n. n < 64 in
    subst P (sym (get_or-drop a symbols i 0)) (small (a + i))

-- ---- words

raw_words : (w slots : List (List ℕ))
    → run_gives (window_next Raw) (window_gives Raw) w slots ≡ run_gives gather_next gather_gives w slots
unfolding window_next window_gives
raw_words w [] = refl
raw_words w (s ∷ slots) = ap (give (gather_gives w s)) (raw_words (gather_next w s) slots)

words_after : (saved rest : List (List ℕ)) → length saved ≤ 7 → Sized 24 saved → Sized 24 rest
    → run_gives gather_next gather_gives (run_state gather_next [] saved) rest
    ≡ map (word_of (concat (saved ++ rest))) (below (length saved + length rest - 7))
words_after saved rest few sized sized' =
    let none_yet : length saved - 7 ≡ 0 = omega (arith, few) in
    let none_given : run_gives gather_next gather_gives [] saved ≡ [] =
    gathers [] saved (omega arith) sized ∙ ap (λ k. map (word_of (concat saved)) (below k)) none_yet in
    sym (ap
    (λ (l : List (List ℕ)). l ++ run_gives gather_next gather_gives (run_state gather_next [] saved) rest)
    none_given)
    ∙ sym (run_gives-append gather_next gather_gives [] saved rest)
    ∙ gathers [] (saved ++ rest) (omega arith) (sized_append 24 saved rest sized sized')
    ∙ ap (λ k. map (word_of (concat (saved ++ rest))) (below (k - 7))) (length-append saved rest)

placed_word : (symbols : List ℕ) (at : ℕ → ℕ) → ((p : ℕ) → get_or symbols p 0 < 64)
    → IsWord (map (λ i. get_or symbols (at i) 0) (below 24))
placed_word symbols at small = record {
  size = length-map-range_with_len (λ i. get_or symbols (at i) 0) 0 24;
  symbols =
      λ k d lt. subst (λ n. n < 64) (sym (get_or-map-range_with_len (λ i. get_or symbols (at i) 0) 0 24 k k d
      (omega (arith, lt, length-map-range_with_len (λ i. get_or symbols (at i) 0) 0 24)) (omega arith)))
      (small (at k));
}

pub gathered_word : (symbols : List ℕ) (n : ℕ) → ((p : ℕ) → get_or symbols p 0 < 64)
    → IsWord (word_of symbols n)
unfolding word_of
gathered_word symbols n small = placed_word symbols (place n) small

pub both_small : (xs ys : List ℕ) → ((p : ℕ) → get_or xs p 0 < 64) → ((p : ℕ) → get_or ys p 0 < 64) → (p : ℕ)
    → get_or (xs ++ ys) p 0 < 64
both_small xs ys small small' p =
    let P : ℕ → Type 0 = λ n. n < 64 in
    elim (leb_tells (length xs) p) [
      | inl past ↦
          subst P (sym (get_or-append_right xs ys (length xs) p 0 refl past.1)) (small' (p - length xs))
      | inr before ↦ subst P (sym (get_or_append_left xs ys 0 p (omega (arith, before.1)))) (small p)
    ]

-- ---- the standing

-- `s` is the state that is restored from a checkpoint, in order to play up to a time
pub record IsBroughtBack (c : Checkpoint) (time : ℕ) (s : Then BlockWords Painting) : Type 0 where
  pub words : s.first
      ≡ record { form = Raw; lead_in = c.to_come; gather = run_state gather_next [] (saved_slots c) }
  pub left : s.second.left ≡ packs_until c time
  pub bad : s.second.bad ≡ c.bad
  pub stands : s.second.screen ≡ c.standing

-- the values of a checkpoint are in their ranges, as far as the proofs need it
pub record IsSound (c : Checkpoint) : Type 0 where
  pub size : length c.slots ≡ 168
  pub small : (i : ℕ) → get_or c.slots i 0 < 64
  pub few_bad : c.bad ≤ 4000000
  pub standing : IsWholeStanding c.standing

module _ (c : Checkpoint) (time n : ℕ) (bytes : List ℕ) (s s' : Then BlockWords Painting) (sound : IsSound c)
    (back : IsBroughtBack c time s) (few : n ≤ 1000000) (size : length bytes ≡ n * 96)
    (run : s' ≡ run_state words_drawn s (units_of 96 n bytes)) where
  whole : IsWhole 96 n bytes
  whole = whole_taken Raw n bytes size

  abbrev kept : ℕ
  kept = min 7 (4 * c.program)

  abbrev program : List (List ℕ)
  program = drop c.to_come (units_of 96 n bytes)

  abbrev words : List (List ℕ)
  words =
      run_gives gather_next gather_gives (run_state gather_next [] (saved_slots c))
      (flat_map slots_of program)

  program_sized : Sized 96 program
  program_sized = sized_drop 96 c.to_come _ (units_sized 96 n bytes whole.fits)

  saved_sized : Sized 24 (saved_slots c)
  saved_sized = slots_sized c.slots (7 - kept) kept (omega (arith, sound.size))

  saved_count : length (saved_slots c) ≡ kept
  saved_count = length-map-range_with_len (slot_at c.slots) (7 - kept) kept

  saved_together : concat (saved_slots c) ≡ drop (empty_symbols c.program) c.slots
  saved_together =
      let rest : length (drop (24 * (7 - kept)) c.slots) ≡ 168 - 24 * (7 - kept) =
      length-drop (24 * (7 - kept)) c.slots ∙ ap (λ k. k - 24 * (7 - kept)) sound.size in
      slots_together c.slots (7 - kept) kept
      ∙ ap symbols_of (take_all (24 * kept) (drop (24 * (7 - kept)) c.slots) (omega (arith, rest)))
      ∙ small_stay (drop (24 * (7 - kept)) c.slots) (dropped_small c.slots (24 * (7 - kept)) sound.small)

  symbols_together : concat (saved_slots c ++ flat_map slots_of program) ≡ resumed_symbols c bytes
  symbols_together =
      concat-append (saved_slots c) (flat_map slots_of program)
      ∙ ap₂ (λ (x y : List ℕ). x ++ y) saved_together
      (all_slots_together program program_sized ∙ sym (symbols_are c.to_come n bytes whole))

  all_small : (p : ℕ) → get_or (resumed_symbols c bytes) p 0 < 64
  all_small =
      both_small (drop (empty_symbols c.program) c.slots) (program_symbols Raw bytes c.to_come)
      (dropped_small c.slots (empty_symbols c.program) sound.small)
      (subst (λ (l : List ℕ). (p : ℕ) → get_or l p 0 < 64) (sym (symbols_are c.to_come n bytes whole))
      (symbols_small program))

  slots_count : length (flat_map slots_of program) ≡ 4 * (n - c.to_come)
  slots_count =
      length-all_slots program
      ∙ ap (λ k. 4 * k)
      (length-drop c.to_come (units_of 96 n bytes) ∙ ap (λ k. k - c.to_come) (length-units_of 96 n bytes))

  abbrev many : ℕ
  many = length (saved_slots c) + length (flat_map slots_of program) - 7

  words_are : words ≡ map (word_of (resumed_symbols c bytes)) (below many)
  words_are =
      words_after (saved_slots c) (flat_map slots_of program) (omega (arith, saved_count)) saved_sized
      (all_slots_sized program program_sized)
      ∙ ap (λ (l : List ℕ). map (word_of l) (below many)) symbols_together

  words_count : length words ≡ many
  words_count = ap length words_are ∙ length-map-range_with_len (word_of (resumed_symbols c bytes)) 0 many

  packs_count : many ≡ packs_until c (blocks_after c bytes)
  packs_count =
      let blocks : length bytes / 96 ≡ n = units_in Raw n bytes whole in
      omega (arith, saved_count, slots_count)
      ∙ ap (λ k. packs_until c (c.program + (k - c.to_come))) (sym blocks)

  drawn : AreDrawn s.second.screen (packs_until c time) c.bad words s'.second
  drawn =
      let start : s.second ≡ record { screen = s.second.screen; left = packs_until c time; bad = c.bad } =
      ap₂ (λ l b. record { screen = s.second.screen; left = l; bad = b }) back.left back.bad in
      let given : all_items (run_gives words_next words_give s.first (units_of 96 n bytes)) ≡ words =
      ap (λ (w : BlockWords). all_items (run_gives words_next words_give w (units_of 96 n bytes))) back.words
      ∙ words_run Raw c.to_come (run_state gather_next [] (saved_slots c)) (units_of 96 n bytes)
      ∙ raw_words (run_state gather_next [] (saved_slots c)) (flat_map slots_of program) in
      let end : s'.second
      ≡ draw_after (record { screen = s.second.screen; left = packs_until c time; bad = c.bad }) words =
      ap (λ (t : Then BlockWords Painting). t.second) run
      ∙ then_next_second words_next words_give painting_next s (units_of 96 n bytes)
      ∙ painting_runs s.second (run_gives words_next words_give s.first (units_of 96 n bytes))
      ∙ ap₂ draw_after start given in
      subst (AreDrawn s.second.screen (packs_until c time) c.bad words) (sym end) (are_drawn s.second.screen
      (packs_until c time) c.bad words (subst IsWholeStanding (sym back.stands) sound.standing)
      (omega (arith, sound.few_bad, words_count, saved_count, slots_count, few)))

  pub gone_on : IsGoneOn c time bytes s'.second.screen s'.second.bad
  gone_on = record {
    found = map finding words;
    count = length-map words finding ∙ words_count ∙ packs_count;
    each = λ k lt.
        let below_many : k < many = omega (arith, lt, length-map words finding, words_count) in
        let word : get_or words k [] ≡ word_of (resumed_symbols c bytes) k =
        ap (λ (l : List (List ℕ)). get_or l k []) words_are
        ∙ get_or-map-range_with_len (word_of (resumed_symbols c bytes)) 0 many k k [] below_many
        (omega arith) in
        let entry : get_or (map finding words) k None ≡ finding (word_of (resumed_symbols c bytes) k) =
        get_or-map finding words k [] None (omega (arith, below_many, words_count)) ∙ ap finding word in
        subst (IsFinding (word_of (resumed_symbols c bytes) k)) (sym entry) (finding_is
        (word_of (resumed_symbols c bytes) k) (gathered_word (resumed_symbols c bytes) k all_small));
    instrs = instrs_of (take (packs_until c time) (map finding words));
    shown = are_meant (take (packs_until c time) (map finding words));
    stands =
        drawn.stands
        ∙ ap
        (λ (now : Standing). standing_after now (instrs_of (take (packs_until c time) (map finding words))))
        back.stands;
    bad_is = drawn.counted;
  }
