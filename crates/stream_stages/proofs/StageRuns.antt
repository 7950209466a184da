-- The runs of the stages of a player over lists of blocks.
use Rattle.std.proofs.Common.{◌≡◌, ◌==◌, ℕ, zero, suc, ◌+◌, ◌-◌, ◌^◌, ◌<◌, ◌≤◌, false, cond, min, List, [], ◌∷◌, ◌++◌, length, map, drop, refl, sym, ap, ◌∙◌, arith, Some, None, inl, inr}
use Rattle.std.specs.Prelude.{is_none}
use Rattle.std.specs.declared.option.Option.{Option}
use Rattle.std.specs.List.{concat, flat_map}
use Rattle.std.proofs.lemmas.List.{append_assoc}
use Rattle.std.proofs.lemmas.Bool.Decides.{eqb_tells}
use Rattle.std.proofs.lemmas.List.Sums.{sum_by-cons}
use Rattle.arrayvec.specs.ArrayVec.{ArrayVec}
use Rattle.cdg_io.specs.Run.{give, run_state, run_gives}
use Rattle.cdg_io.proofs.Runs.{run_gives-append, run_state-append}
use Rattle.rw_code.specs.Finding.{finding}
use Rattle.rw_interleave.specs.Texts.{entry_bytes, cdg_bytes}
use Rattle.rw_interleave.specs.Stream.{bad_count}
use Rattle.stream_stages.specs.Steps.{slots_of, window_next, window_gives, words_next, words_give, bad_next, bad_after, bad_with, text_of_words, packs_next, packs_give}
use Rattle.raw_subcode.specs.declared.form.Form.{Form}
use Rattle.stream_stages.specs.declared.block_words.BlockWords.{BlockWords}
use Rattle.stream_stages.specs.declared.block_packs.BlockPacks.{BlockPacks}

-- all words in these lists
abbrev pub all_items : List (ArrayVec (List ℕ)) → List (List ℕ)
all_items [] = []
all_items (v ∷ vs) = v.items ++ all_items vs

abbrev at : Form → ℕ → List (List ℕ) → BlockWords
at form lead_in window = record { form = form; lead_in = lead_in; gather = window }

program_block : (form : Form) (window : List (List ℕ)) (block : List ℕ)
    → (words_next (at form 0 window) block ≡ at form 0 (run_state (window_next form) window (slots_of block)))
    × (words_give (at form 0 window) block
    ≡ Some (record { items = run_gives (window_next form) (window_gives form) window (slots_of block) }))
unfolding words_next words_give
program_block form window block = (refl, refl)

lead_in_block : (form : Form) (lead_in : ℕ) (window : List (List ℕ)) (block : List ℕ)
    → (words_next (at form (suc lead_in) window) block ≡ at form lead_in window)
    × (words_give (at form (suc lead_in) window) block ≡ None)
unfolding words_next words_give
lead_in_block form lead_in window block =
    let less : suc lead_in - 1 ≡ lead_in = omega arith in
    let more : (suc lead_in == 0) ≡ false =
    elim (eqb_tells (suc lead_in) 0) [ inl none ↦ absurd (omega (arith, none.1)) | inr some ↦ some.0 ] in (
      ap (λ t. cond t (at form (suc lead_in) (run_state (window_next form) window (slots_of block)))
          (at form (suc lead_in - 1) window)) more
          ∙ ap (λ l. at form l window) less,
      ap (λ t. cond t
          (Some (record { items = run_gives (window_next form) (window_gives form) window (slots_of block) }))
          None) more,
    )

pub words_run : (form : Form) (lead_in : ℕ) (window blocks : List (List ℕ))
    → all_items (run_gives words_next words_give (at form lead_in window) blocks)
    ≡ run_gives (window_next form) (window_gives form) window (flat_map slots_of (drop lead_in blocks))
words_run form zero window [] = refl
words_run form (suc lead_in) window [] = refl
words_run form zero window (block ∷ blocks) =
    let step = program_block form window block in
    ap
    (λ o. all_items (give o (run_gives words_next words_give (words_next (at form 0 window) block) blocks)))
    step.1
    ∙ ap (λ s. run_gives (window_next form) (window_gives form) window (slots_of block)
    ++ all_items (run_gives words_next words_give s blocks)) step.0
    ∙ ap (λ l. run_gives (window_next form) (window_gives form) window (slots_of block) ++ l)
    (words_run form 0 (run_state (window_next form) window (slots_of block)) blocks)
    ∙ sym (run_gives-append (window_next form) (window_gives form) window (slots_of block)
    (flat_map slots_of blocks))
words_run form (suc lead_in) window (block ∷ blocks) =
    let step = lead_in_block form lead_in window block in
    ap (λ o. all_items
    (give o (run_gives words_next words_give (words_next (at form (suc lead_in) window) block) blocks)))
    step.1
    ∙ ap (λ s. all_items (run_gives words_next words_give s blocks)) step.0
    ∙ words_run form lead_in window blocks

-- the last slots after some blocks
pub window_run : (form : Form) (lead_in : ℕ) (window blocks : List (List ℕ))
    → (run_state words_next (at form lead_in window) blocks).gather
    ≡ run_state (window_next form) window (flat_map slots_of (drop lead_in blocks))
window_run form zero window [] = refl
window_run form (suc lead_in) window [] = refl
window_run form zero window (block ∷ blocks) =
    ap (λ (s : BlockWords). (run_state words_next s blocks).gather) (program_block form window block).0
    ∙ window_run form 0 (run_state (window_next form) window (slots_of block)) blocks
    ∙ sym (run_state-append (window_next form) window (slots_of block) (flat_map slots_of blocks))
window_run form (suc lead_in) window (block ∷ blocks) =
    ap (λ (s : BlockWords). (run_state words_next s blocks).gather)
    (lead_in_block form lead_in window block).0
    ∙ window_run form lead_in window blocks

text_append : (words others : List (List ℕ))
    → cdg_bytes (map finding (words ++ others))
    ≡ cdg_bytes (map finding words) ++ cdg_bytes (map finding others)
text_append [] others = refl
text_append (w ∷ words) others =
    ap (λ l. entry_bytes (finding w) ++ l) (text_append words others)
    ∙ sym (append_assoc (entry_bytes (finding w)) _ _)

text_on : (o : Option (ArrayVec (List ℕ))) (rest : List (ArrayVec (List ℕ)))
    → text_of_words o ++ cdg_bytes (map finding (all_items rest))
    ≡ cdg_bytes (map finding (all_items (give o rest)))
text_on None rest = refl
text_on (Some v) rest = sym (text_append v.items (all_items rest))

-- the packs of some blocks
pub packs_run : (s : BlockPacks) (blocks : List (List ℕ))
    → concat (run_gives packs_next packs_give s blocks)
    ≡ cdg_bytes (map finding (all_items (run_gives words_next words_give s.words blocks)))
unfolding packs_next packs_give
packs_run s [] = refl
packs_run s (block ∷ blocks) =
    ap (λ (l : List ℕ). text_of_words (words_give s.words block) ++ l) (packs_run (packs_next s block) blocks)
    ∙ text_on (words_give s.words block) (run_gives words_next words_give (words_next s.words block) blocks)

bad_append : (bad : ℕ) (words others : List (List ℕ))
    → bad_after bad (words ++ others) ≡ bad_after (bad_after bad words) others
unfolding bad_after
bad_append bad [] others = refl
bad_append bad (w ∷ words) others = bad_append (bad_next bad w) words others

bad_on : (bad : ℕ) (o : Option (ArrayVec (List ℕ))) (rest : List (ArrayVec (List ℕ)))
    → bad_after (bad_with bad o) (all_items rest) ≡ bad_after bad (all_items (give o rest))
bad_on bad None rest = refl
bad_on bad (Some v) rest = sym (bad_append bad v.items (all_items rest))

-- and the number of bad ones
pub packs_counted : (s : BlockPacks) (blocks : List (List ℕ))
    → (run_state packs_next s blocks).bad
    ≡ bad_after s.bad (all_items (run_gives words_next words_give s.words blocks))
unfolding packs_next bad_after
packs_counted s [] = refl
packs_counted s (block ∷ blocks) =
    packs_counted (packs_next s block) blocks
    ∙ bad_on s.bad (words_give s.words block)
    (run_gives words_next words_give (words_next s.words block) blocks)

pub one_bad : (bad : ℕ) (found : Option (List ℕ)) → bad + 1 < 2 ^ 32
    → cond (is_none found) (min (bad + 1) (2 ^ 32 - 1)) bad ≡ bad + bad_count (found ∷ [])
one_bad bad (Some w) fits = omega arith
one_bad bad None fits = omega (arith, fits)

pub count_more : (found : Option (List ℕ)) (rest : List (Option (List ℕ)))
    → bad_count (found ∷ rest) ≡ bad_count (found ∷ []) + bad_count rest
count_more found rest =
    let whole : bad_count (found ∷ rest) ≡ cond (is_none found) 1 0 + bad_count rest =
    sum_by-cons (λ (x : Option (List ℕ)). cond (is_none x) 1 0) found rest in
    let one : bad_count (found ∷ []) ≡ cond (is_none found) 1 0 + 0 =
    sum_by-cons (λ (x : Option (List ℕ)). cond (is_none x) 1 0) found [] in
    omega (arith, whole, one)

pub at_most_one : (found : Option (List ℕ)) → bad_count (found ∷ []) ≤ 1
at_most_one (Some w) = omega arith
at_most_one None = omega arith

-- the count does not saturate for a small number of words
pub bad_counts : (bad : ℕ) (words : List (List ℕ)) → bad + length words < 2 ^ 32
    → bad_after bad words ≡ bad + bad_count (map finding words)
unfolding bad_after bad_next
bad_counts bad [] fits = omega arith
bad_counts bad (w ∷ words) fits =
    let step : cond (is_none (finding w)) (min (bad + 1) (2 ^ 32 - 1)) bad
    ≡ bad + bad_count (finding w ∷ []) =
    one_bad bad (finding w) (omega (arith, fits)) in
    ap (λ b. bad_after b words) step
    ∙ bad_counts (bad + bad_count (finding w ∷ [])) words (omega (arith, fits, at_most_one (finding w)))
    ∙ omega (arith, count_more (finding w) (map finding words))
