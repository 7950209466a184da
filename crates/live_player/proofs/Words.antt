-- The words that end with one more block.
use Rattle.std.proofs.Common.{◌≡◌, ℕ, zero, suc, ◌/◌, List, [], ◌∷◌, ◌++◌, length, map, refl, ap, ap₂, ◌∙◌, sym, arith, None, Some}
use Rattle.std.specs.declared.option.Option.{Option}
use Rattle.std.specs.Prelude.{drop}
use Rattle.std.specs.List.{flat_map}
use Rattle.arrayvec.specs.ArrayVec.{ArrayVec}
use Rattle.bit_lists.specs.Counting.{below}
use Rattle.cdg_io.specs.Run.{give, run_state, run_gives}
use Rattle.cdg_io.proofs.Runs.{run_gives-append}
use Rattle.raw_subcode.specs.Channels.{symbols_of}
use Rattle.raw_subcode.specs.declared.form.Form.{Form}
use Rattle.rw_interleave.specs.Stream.{form_word, word_count}
use Rattle.stream_stages.specs.Steps.{slots_of, fresh_words, words_next, words_give}
use Rattle.stream_stages.specs.declared.block_words.BlockWords.{BlockWords}
use Rattle.stream_stages.proofs.FormWords.{words_from, words_are}
use Rattle.stream_stages.proofs.PlayRuns.{block_words}
use Rattle.stream_stages.proofs.Slots.{Sized, sized_append, sized_drop, all_slots_sized, all_slots_together, length-all_slots, length-all_symbols}
use Rattle.stream_stages.proofs.StageRuns.{all_items}
use Rattle.live_player.specs.Lives.{stream_words, words_with}

words_of_program : (form : Form) (blocks : List (List ℕ)) → Sized 96 blocks
    → words_from form (flat_map slots_of blocks)
    ≡ map (form_word form (flat_map symbols_of blocks))
    (below (word_count form (length (flat_map symbols_of blocks) / 96)))
words_of_program form blocks sized =
    let many : length (flat_map symbols_of blocks) / 96 ≡ length blocks =
    omega (arith, length-all_symbols blocks sized) in
    words_are form (flat_map slots_of blocks) (length blocks) (all_slots_sized blocks sized)
    (length-all_slots blocks)
    ∙ ap₂ (λ (s : List ℕ) n. map (form_word form s) (below (word_count form n)))
    (all_slots_together blocks sized) (sym many)

pub words_of_stream : (form : Form) (lead_in : ℕ) (blocks : List (List ℕ)) → Sized 96 blocks
    → words_from form (flat_map slots_of (drop lead_in blocks)) ≡ stream_words form lead_in blocks
unfolding stream_words
words_of_stream form lead_in blocks sized =
    words_of_program form (drop lead_in blocks) (sized_drop 96 lead_in blocks sized)

assoc : {A : Type 0} (xs ys zs : List A) → (xs ++ ys) ++ zs ≡ xs ++ (ys ++ zs)
assoc [] ys zs = refl
assoc (x ∷ xs) ys zs = ap (λ l. x ∷ l) (assoc xs ys zs)

pub nothing_after : {A : Type 0} (xs : List A) → xs ++ [] ≡ xs
nothing_after [] = refl
nothing_after (x ∷ xs) = ap (λ l. x ∷ l) (nothing_after xs)

items_append : (us vs : List (ArrayVec (List ℕ))) → all_items (us ++ vs) ≡ all_items us ++ all_items vs
items_append [] vs = refl
items_append (u ∷ us) vs =
    ap (λ l. u.items ++ l) (items_append us vs) ∙ sym (assoc u.items (all_items us) (all_items vs))

pub rest_of : {A : Type 0} (xs ys : List A) → drop (length xs) (xs ++ ys) ≡ ys
rest_of [] ys = refl
rest_of (x ∷ xs) ys = rest_of xs ys

-- no block has been fed
no_blocks : (lead_in : ℕ) → drop {A = List ℕ} lead_in [] ≡ []
no_blocks zero = refl
no_blocks (suc n) = refl

pub no_words_yet : (form : Form) (lead_in : ℕ) → stream_words form lead_in [] ≡ []
no_words_yet form lead_in =
    sym (words_of_stream form lead_in [] tt)
    ∙ ap (λ bs. words_from form (flat_map slots_of bs)) (no_blocks lead_in)

pub more_words : (form : Form) (lead_in : ℕ) (blocks : List (List ℕ)) (block : List ℕ) (gather : BlockWords)
    → length block ≡ 96 → Sized 96 blocks
    → gather ≡ run_state words_next (fresh_words form lead_in) blocks
    → stream_words form lead_in (blocks ++ block ∷ [])
    ≡ stream_words form lead_in blocks ++ all_items (give (words_give gather block) [])
more_words form lead_in blocks block gather size sized now =
    let start : BlockWords = fresh_words form lead_in in
    let all : List (List ℕ) = blocks ++ block ∷ [] in
    let gives : run_gives words_next words_give start all
    ≡ run_gives words_next words_give start blocks ++ give (words_give gather block) [] =
    run_gives-append words_next words_give start blocks (block ∷ [])
    ∙ ap (λ b. run_gives words_next words_give start blocks ++ give (words_give b block) []) (sym now) in
    sym (words_of_stream form lead_in all (sized_append 96 blocks (block ∷ []) sized (size, tt)))
    ∙ sym (block_words form lead_in start all refl)
    ∙ ap all_items gives
    ∙ items_append (run_gives words_next words_give start blocks) (give (words_give gather block) [])
    ∙ ap (λ (l : List (List ℕ)). l ++ all_items (give (words_give gather block) []))
    (block_words form lead_in start blocks refl ∙ words_of_stream form lead_in blocks sized)

-- the words that end with a block
pub words_come : (form : Form) (lead_in : ℕ) (blocks : List (List ℕ)) (block : List ℕ) (gather : BlockWords)
    → length block ≡ 96 → Sized 96 blocks
    → gather ≡ run_state words_next (fresh_words form lead_in) blocks
    → words_with form lead_in blocks block ≡ all_items (give (words_give gather block) [])
words_come form lead_in blocks block gather size sized now =
    ap (drop (length (stream_words form lead_in blocks)))
    (more_words form lead_in blocks block gather size sized now)
    ∙ rest_of (stream_words form lead_in blocks) (all_items (give (words_give gather block) []))

-- with the earlier words, they are all words
pub words_go_on : (form : Form) (lead_in : ℕ) (blocks : List (List ℕ)) (block : List ℕ) → length block ≡ 96
    → Sized 96 blocks
    → stream_words form lead_in (blocks ++ block ∷ [])
    ≡ stream_words form lead_in blocks ++ words_with form lead_in blocks block
words_go_on form lead_in blocks block size sized =
    let gather : BlockWords = run_state words_next (fresh_words form lead_in) blocks in
    more_words form lead_in blocks block gather size sized refl
    ∙ ap (λ (l : List (List ℕ)). stream_words form lead_in blocks ++ l)
    (sym (words_come form lead_in blocks block gather size sized refl))

-- the output for a block is the next words, whatever came before
pub given_words : (form : Form) (lead_in : ℕ) (blocks : List (List ℕ)) (block : List ℕ) (gather : BlockWords)
    (words : ArrayVec (List ℕ))
    → length block ≡ 96 → Sized 96 blocks → gather ≡ run_state words_next (fresh_words form lead_in) blocks
    → Some words ≡ words_give gather block
    → stream_words form lead_in (blocks ++ block ∷ []) ≡ stream_words form lead_in blocks ++ words.items
given_words form lead_in blocks block gather words size sized now gave =
    more_words form lead_in blocks block gather size sized now
    ∙ ap (λ (o : Option (ArrayVec (List ℕ))). stream_words form lead_in blocks ++ all_items (give o []))
    (sym gave)
    ∙ ap (λ (l : List (List ℕ)). stream_words form lead_in blocks ++ l) (nothing_after words.items)

pub no_words : (form : Form) (lead_in : ℕ) (blocks : List (List ℕ)) (block : List ℕ) (gather : BlockWords)
    → length block ≡ 96 → Sized 96 blocks
    → gather ≡ run_state words_next (fresh_words form lead_in) blocks
    → None ≡ words_give gather block
    → stream_words form lead_in (blocks ++ block ∷ []) ≡ stream_words form lead_in blocks ++ []
no_words form lead_in blocks block gather size sized now gave =
    more_words form lead_in blocks block gather size sized now
    ∙ ap (λ (o : Option (ArrayVec (List ℕ))). stream_words form lead_in blocks ++ all_items (give o []))
    (sym gave)
