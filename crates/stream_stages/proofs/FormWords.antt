-- The words that end with slots, and the findings for them.
use Rattle.std.proofs.Common.{◌≡◌, ℕ, zero, suc, ◌+◌, ◌-◌, ◌*◌, ◌/◌, ◌<◌, List, [], ◌∷◌, length, get_or, map, refl, sym, ap, ap₂, ◌∙◌, subst, arith, None}
use Rattle.std.specs.declared.option.Option.{Option}
use Rattle.std.specs.List.{concat, flat_map}
use Rattle.std.proofs.lemmas.List.{length-map, get_or-map}
use Rattle.std.proofs.lemmas.List.FromFn.{length-map-range_with_len, get_or-map-range_with_len, fill_by_all}
use Rattle.cdg_io.specs.Run.{give, run_gives}
use Rattle.rw_code.specs.Codeword.{IsWord}
use Rattle.rw_code.specs.Finding.{IsFinding, finding}
use Rattle.rw_code.proofs.Finding.{finding_is}
use Rattle.bit_lists.specs.Counting.{below}
use Rattle.rw_interleave.specs.Interleave.{word_of, place}
use Rattle.rw_interleave.specs.Gathering.{gather_next, gather_gives}
use Rattle.rw_interleave.proofs.Gathers.{gathers}
use Rattle.rw_interleave.proofs.Places.{concat_at}
use Rattle.raw_subcode.specs.Channels.{symbols_of}
use Rattle.rw_interleave.specs.Stream.{word_count, form_word, IsRecovered}
use Rattle.stream_stages.specs.Steps.{slots_of, window_next, window_gives}
use Rattle.raw_subcode.specs.declared.form.Form.{Form}
use Rattle.raw_subcode.specs.declared.form.Form.TheVariants.{Raw, Sector, Cooked}
use Rattle.stream_stages.proofs.Slots.{Sized, all_slots_sized, all_slots_together, length-all_slots, length-all_symbols, symbols_small}

-- the words that end with slots, from the start
abbrev pub words_from : Form → List (List ℕ) → List (List ℕ)
words_from form slots = run_gives (window_next form) (window_gives form) [] slots

raw_words : (w slots : List (List ℕ))
    → run_gives (window_next Raw) (window_gives Raw) w slots ≡ run_gives gather_next gather_gives w slots
unfolding window_next window_gives
raw_words w [] = refl
raw_words w (s ∷ slots) = ap (give (gather_gives w s)) (raw_words (gather_next w s) slots)

sector_words : (w slots : List (List ℕ))
    → run_gives (window_next Sector) (window_gives Sector) w slots
    ≡ run_gives gather_next gather_gives w slots
unfolding window_next window_gives
sector_words w [] = refl
sector_words w (s ∷ slots) = ap (give (gather_gives w s)) (sector_words (gather_next w s) slots)

cooked_words : (w slots : List (List ℕ))
    → run_gives (window_next Cooked) (window_gives Cooked) w slots ≡ slots
unfolding window_next window_gives
cooked_words w [] = refl
cooked_words w (s ∷ slots) = ap (λ l. s ∷ l) (cooked_words w slots)

size_at : (slots : List (List ℕ)) (k : ℕ) → Sized 24 slots → k < length slots
    → length (get_or slots k []) ≡ 24
size_at [] k sized lt = absurd (omega arith)
size_at (s ∷ slots) zero sized lt = sized.0
size_at (s ∷ slots) (suc k) sized lt = size_at slots k sized.1 (omega arith)

-- the slots of the cooked form are the words of its symbols
plain_words : (slots : List (List ℕ)) → Sized 24 slots
    → slots ≡ map (form_word Cooked (concat slots)) (below (length slots))
plain_words slots sized =
    fill_by_all (form_word Cooked (concat slots)) slots (length slots) [] refl (λ k lt.
    fill_by_all (λ i. get_or (concat slots) (24 * k + i) 0) (get_or slots k []) 24 0
    (size_at slots k sized lt) (λ p within. sym (concat_at slots k p sized within)))

gathered_words : (slots : List (List ℕ)) → Sized 24 slots
    → run_gives gather_next gather_gives [] slots ≡ map (word_of (concat slots)) (below (length slots - 7))
gathered_words slots sized = gathers [] slots (omega arith) sized

-- the words of slots, from their symbols
pub words_are : (form : Form) (slots : List (List ℕ)) (n : ℕ) → Sized 24 slots → length slots ≡ 4 * n
    → words_from form slots ≡ map (form_word form (concat slots)) (below (word_count form n))
words_are Raw slots n sized size =
    raw_words [] slots
    ∙ gathered_words slots sized
    ∙ ap (λ k. map (word_of (concat slots)) (below (k - 7))) size
words_are Sector slots n sized size =
    sector_words [] slots
    ∙ gathered_words slots sized
    ∙ ap (λ k. map (word_of (concat slots)) (below (k - 7))) size
words_are Cooked slots n sized size =
    cooked_words [] slots
    ∙ plain_words slots sized
    ∙ ap (λ k. map (form_word Cooked (concat slots)) (below k)) size

-- 24 small symbols at any places form a word
placed_word : (symbols : List ℕ) (at : ℕ → ℕ) → ((p : ℕ) → get_or symbols p 0 < 64)
    → IsWord (map (λ i. get_or symbols (at i) 0) (below 24))
placed_word symbols at small = record {
  size = length-map-range_with_len (λ i. get_or symbols (at i) 0) 0 24;
  symbols =
      λ k d lt. subst (λ n. n < 64) (sym (get_or-map-range_with_len (λ i. get_or symbols (at i) 0) 0 24 k k d
      (omega (arith, lt, length-map-range_with_len (λ i. get_or symbols (at i) 0) 0 24)) (omega arith)))
      (small (at k));
}

form_words : (form : Form) (symbols : List ℕ) (n : ℕ) → ((p : ℕ) → get_or symbols p 0 < 64)
    → IsWord (form_word form symbols n)
unfolding word_of
form_words Raw symbols n small = placed_word symbols (place n) small
form_words Sector symbols n small = placed_word symbols (place n) small
form_words Cooked symbols n small = placed_word symbols (λ i. 24 * n + i) small

-- the findings for the words that end with the slots of some blocks
abbrev pub found_in : Form → List (List ℕ) → List (Option (List ℕ))
found_in form blocks = map finding (words_from form (flat_map slots_of blocks))

pub recovered : (form : Form) (blocks : List (List ℕ)) → Sized 96 blocks
    → IsRecovered form (flat_map symbols_of blocks) (found_in form blocks)
recovered form blocks sized =
    let symbols : List ℕ = flat_map symbols_of blocks in
    let slots : List (List ℕ) = flat_map slots_of blocks in
    let many : length symbols / 96 ≡ length blocks = omega (arith, length-all_symbols blocks sized) in
    let words : words_from form slots
    ≡ map (form_word form symbols) (below (word_count form (length symbols / 96))) =
    words_are form slots (length blocks) (all_slots_sized blocks sized) (length-all_slots blocks)
    ∙ ap₂ (λ (s : List ℕ) n. map (form_word form s) (below (word_count form n)))
    (all_slots_together blocks sized) (sym many) in
    let count : length (words_from form slots) ≡ word_count form (length symbols / 96) =
    ap length words ∙ length-map-range_with_len (form_word form symbols) 0 _ in
    record {
      count = length-map (words_from form slots) finding ∙ count;
      each = λ n lt.
          let word : get_or (words_from form slots) n [] ≡ form_word form symbols n =
          ap (λ l. get_or l n []) words
          ∙ get_or-map-range_with_len (form_word form symbols) 0 _ n n [] lt (omega arith) in
          let entry : get_or (found_in form blocks) n None ≡ finding (form_word form symbols n) =
          get_or-map finding (words_from form slots) n [] None (omega (arith, lt, count)) ∙ ap finding word in
          subst (IsFinding (form_word form symbols n)) (sym entry)
          (finding_is (form_word form symbols n) (form_words form symbols n (symbols_small blocks)));
    }
