-- The stages of a player write the packs of a stream.
use Rattle.std.proofs.Common.{◌≡◌, ℕ, ◌+◌, ◌^◌, ◌<◌, ◌≤◌, List, [], ◌∷◌, length, map, drop, ap, ap₂, ◌∙◌, arith, length-drop, Some, None}
use Rattle.std.specs.declared.option.Option.{Option}
use Rattle.std.specs.List.{concat, flat_map}
use Rattle.std.proofs.lemmas.List.{length-map}
use Rattle.cdg_io.specs.Run.{give, run_state, run_gives}
use Rattle.cdg_io.proofs.Frames.{machine_of}
use Rattle.rw_code.specs.Finding.{finding}
use Rattle.raw_subcode.specs.Channels.{block_of}
use Rattle.rw_interleave.specs.Texts.{cdg_bytes}
use Rattle.rw_interleave.specs.Stream.{bad_count}
use Rattle.stream_stages.specs.Steps.{fresh_words, slots_of, window_next, window_gives, words_next, words_give, bad_after, packs_next, packs_give}
use Rattle.raw_subcode.specs.declared.form.Form.{Form}
use Rattle.stream_stages.specs.declared.block_words.BlockWords.{BlockWords}
use Rattle.stream_stages.specs.declared.block_packs.BlockPacks.{BlockPacks}
use Rattle.stream_stages.proofs.Slots.{length-all_slots}
use Rattle.stream_stages.proofs.FormWords.{words_from, found_in}
use Rattle.stream_stages.proofs.StageRuns.{all_items, words_run, packs_run, packs_counted, bad_counts}
use Rattle.stream_stages.specs.Convert.{IsConverted}
use Rattle.stream_stages.proofs.Playing.{Plays}
use Rattle.stream_stages.proofs.WatchedBlocks.{given_on_units, run_on_units}
use Rattle.stream_stages.specs.Watch.{on_units}
use Rattle.stream_stages.proofs.Conversion.{converts_by}

-- an item has at most one output
give_few : {O : Type 0} (o : Option O) (rest : List O) → length (give o rest) ≤ length rest + 1
give_few None rest = omega arith
give_few (Some x) rest = omega arith

pub gives_few : {S I O : Type 0} (next : S → I → S) (gives : S → I → Option O) (s : S) (xs : List I)
    → length (run_gives next gives s xs) ≤ length xs
gives_few next gives s [] = omega arith
gives_few next gives s (x ∷ xs) = omega
    (arith, give_few (gives s x) (run_gives next gives (next s x) xs), gives_few next gives (next s x) xs)

pub block_words : (form : Form) (lead_in : ℕ) (b : BlockWords) (blocks : List (List ℕ))
    → b ≡ fresh_words form lead_in
    → all_items (run_gives words_next words_give b blocks)
    ≡ words_from form (flat_map slots_of (drop lead_in blocks))
block_words form lead_in b blocks start =
    ap (λ b. all_items (run_gives words_next words_give b blocks)) start ∙ words_run form lead_in [] blocks

pub block_text : (form : Form) (lead_in : ℕ) (s : BlockPacks) (blocks : List (List ℕ))
    → s.words ≡ fresh_words form lead_in
    → concat (run_gives packs_next packs_give s blocks) ≡ cdg_bytes (found_in form (drop lead_in blocks))
block_text form lead_in s blocks start =
    packs_run s blocks
    ∙ ap (λ ws. cdg_bytes (map finding ws)) (block_words form lead_in s.words blocks start)

pub block_bad : (form : Form) (lead_in : ℕ) (s : BlockPacks) (blocks : List (List ℕ))
    → s.words ≡ fresh_words form lead_in → s.bad ≡ 0 → length blocks ≤ 1000000
    → (run_state packs_next s blocks).bad ≡ bad_count (found_in form (drop lead_in blocks))
block_bad form lead_in s blocks start none few =
    let slots : List (List ℕ) = flat_map slots_of (drop lead_in blocks) in
    let few_words : 0 + length (words_from form slots) < 2 ^ 32 = omega (
      arith,
      few,
      gives_few (window_next form) (window_gives form) [] slots,
      length-all_slots (drop lead_in blocks),
      length-drop lead_in blocks,
    ) in
    let alone : 0 + bad_count (found_in form (drop lead_in blocks))
    ≡ bad_count (found_in form (drop lead_in blocks)) =
    omega arith in
    packs_counted s blocks
    ∙ ap₂ bad_after none (block_words form lead_in s.words blocks start)
    ∙ bad_counts 0 (words_from form slots) few_words
    ∙ alone

-- the packs of a stream in each form
pub plays_stream : (form : Form) (lead_in : ℕ) (s : BlockPacks) → s.words ≡ fresh_words form lead_in
    → s.bad ≡ 0
    → Plays (IsConverted form lead_in) form
    (machine_of (on_units form packs_next) (on_units form packs_give)) s (λ (t : BlockPacks). t.bad)
plays_stream form lead_in s start none =
    converts_by form lead_in (machine_of (on_units form packs_next) (on_units form packs_give)) s
    (λ (t : BlockPacks). t.bad)
    (λ units. ap concat (given_on_units form packs_next packs_give s units)
    ∙ block_text form lead_in s (map (block_of form) units) start)
    (λ units few. ap (λ (t : BlockPacks). t.bad) (run_on_units form packs_next s units)
    ∙ block_bad form lead_in s (map (block_of form) units) start none
    (omega (arith, few, length-map units (block_of form))))
