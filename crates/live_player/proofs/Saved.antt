-- A player that was restored from the file of another player continues as this one.
use Rattle.std.proofs.Common.{◌≡◌, ℕ, zero, suc, ◌+◌, ◌-◌, ◌*◌, ◌/◌, ◌<◌, ◌≤◌, List, [], ◌++◌, length, get_or, map, drop, replicate, refl, sym, ap, ◌∙◌, subst, arith, length-append, length-drop}
use Rattle.std.specs.Prelude.{is_none, min}
use Rattle.std.specs.List.{flat_map}
use Rattle.std.proofs.lemmas.List.{get_or-drop, get_or_append_left, length-map}
use Rattle.std.proofs.lemmas.List.FromFn.{length-map-range_with_len}
use Rattle.std.proofs.lemmas.List.Sums.{count_by-le-length}
use Rattle.cdg_io.specs.Run.{run_state}
use Rattle.raw_subcode.specs.Channels.{symbols_of}
use Rattle.raw_subcode.specs.declared.form.Form.TheVariants.{Raw}
use Rattle.rw_code.specs.Finding.{finding}
use Rattle.rw_interleave.specs.Gathering.{gather_next, kept_symbols}
use Rattle.rw_interleave.specs.Interleave.{whole_packs}
use Rattle.rw_interleave.specs.Stream.{form_word}
use Rattle.cdg_checkpoint.specs.Checkpoint.{Checkpoint, checkpoint_in, file_of, IsSoundCheckpoint, IsSoundStanding}
use Rattle.cdg_checkpoint.specs.Table.{IsCheckpointFile, empty_symbols}
use Rattle.cdg_checkpoint.proofs.Accepted.{accepted, same}
use Rattle.stream_stages.specs.Steps.{fresh_words, slots_of, words_next}
use Rattle.stream_stages.proofs.Slots.{length-all_slots, length-all_symbols, sized_drop, symbols_small}
use Rattle.stream_stages.proofs.StageRuns.{window_run}
use Rattle.cdg_checkpoint.specs.Saved.{last_symbols}
use Rattle.cdg_checkpoint.proofs.GoneOn.{both_small, dropped_small}
use Rattle.cdg_checkpoint.proofs.Tails.{kept_after}
use Rattle.live_player.specs.Lives.{Given, HasPlayed, bad_words_in, blocks_in, stream_words}
use Rattle.live_player.specs.Saving.{IsAt, checkpoint_of}
use Rattle.live_player.specs.declared.live.LivePlayer.{LivePlayer}
use Rattle.live_player.proofs.Slots.{AreSlots, all_slots, form_stays, gathered_again, gathered_count, gathered_slots, lead_in_falls, raw_window}
use Rattle.live_player.proofs.Small.{stands_soundly}

zeros_small : (n i : ℕ) → get_or (replicate {A = ℕ} n 0) i 0 < 64
zeros_small zero i = omega arith
zeros_small (suc n) zero = omega arith
zeros_small (suc n) (suc i) = zeros_small n i

zeros_are : (n i : ℕ) → get_or (replicate {A = ℕ} n 0) i 0 ≡ 0
zeros_are zero i = refl
zeros_are (suc n) zero = refl
zeros_are (suc n) (suc i) = zeros_are n i

words_count : (lead_in : ℕ) (blocks : List (List ℕ))
    → length (stream_words Raw lead_in blocks)
    ≡ whole_packs (length (flat_map symbols_of (drop lead_in blocks)) / 96)
unfolding stream_words
words_count lead_in blocks =
    let symbols : List ℕ = flat_map symbols_of (drop lead_in blocks) in
    length-map-range_with_len (form_word Raw symbols) 0 (whole_packs (length symbols / 96))

pub is_raw : (lead_in : ℕ) (given : List Given) (saved : LivePlayer) → HasPlayed Raw lead_in given saved
    → saved.words.form ≡ Raw
is_raw lead_in given saved played =
    ap (λ w. w.form) played.gathers ∙ form_stays (fresh_words Raw lead_in) (blocks_in given)

module _ (lead_in : ℕ) (given : List Given) (saved : LivePlayer) (played : HasPlayed Raw lead_in given saved)
    (lead_in_most : lead_in ≤ 450000) (few : length (blocks_in given) ≤ 1000000) where
  abbrev blocks : List (List ℕ)
  blocks = blocks_in given

  abbrev symbols : List ℕ
  symbols = flat_map symbols_of (drop lead_in blocks)

  abbrev c : Checkpoint
  c = checkpoint_of saved

  came : saved.blocks ≡ length blocks
  came = omega (arith, played.counted, few)

  program_is : c.program ≡ length blocks - lead_in
  program_is = omega (arith, came, played.begun)

  count : length symbols ≡ 96 * c.program
  count = omega (
    arith,
    length-all_symbols (drop lead_in blocks) (sized_drop 96 lead_in blocks played.sized),
    length-drop lead_in blocks,
    program_is,
  )

  few_bad : c.bad ≤ whole_packs c.program
  few_bad =
      let words : List (List ℕ) = stream_words Raw lead_in blocks in
      let blocks_are : length symbols / 96 ≡ c.program = omega (arith, count) in
      let few_words : bad_words_in Raw lead_in blocks ≤ length (map finding words) =
      count_by-le-length is_none (map finding words) in
      omega (
        arith,
        played.bad,
        few_words,
        length-map words finding,
        words_count lead_in blocks ∙ ap whole_packs blocks_are,
      )

  slots_are : c.slots ≡ last_symbols 168 symbols
  slots_are =
      ap (λ w. kept_symbols w.gather) played.gathers
      ∙ kept_after lead_in (fresh_words Raw lead_in) blocks refl played.sized

  length-zeros : length (replicate {A = ℕ} 168 0) ≡ 168
  length-zeros = refl

  slot_small : (k : ℕ) → get_or c.slots k 0 < 64
  slot_small =
      subst (λ (l : List ℕ). (p : ℕ) → get_or l p 0 < 64) (sym slots_are)
      (dropped_small (replicate 168 0 ++ symbols) (length symbols)
      (both_small (replicate 168 0) symbols (zeros_small 168) (symbols_small (drop lead_in blocks))))

  slot_empty : (k : ℕ) → k < empty_symbols c.program → get_or c.slots k 0 ≡ 0
  slot_empty k lt =
      ap (λ (l : List ℕ). get_or l k 0) slots_are
      ∙ get_or-drop (length symbols) (replicate 168 0 ++ symbols) k 0
      ∙ get_or_append_left (replicate 168 0) symbols 0 (length symbols + k)
      (omega (arith, count, lt, length-zeros))
      ∙ zeros_are 168 (length symbols + k)

  pub sound : IsSoundCheckpoint c
  sound = record {
    lead_in = omega (arith, came, played.begun, lead_in_most);
    blocks = omega (arith, came, few);
    none_yet = λ some. omega (arith, some);
    bad = few_bad;
    slots_size =
        ap length slots_are
        ∙ length-drop (length symbols) (replicate 168 0 ++ symbols)
        ∙ omega (arith, length-append (replicate 168 0) symbols, length-zeros);
    slots_below = λ k lt. slot_small k;
    slots_empty = slot_empty;
    standing = subst IsSoundStanding (sym played.stands) (stands_soundly lead_in given);
  }

  pub is_file : IsCheckpointFile (file_of c)
  is_file = accepted c sound

  gather_is : saved.words.gather ≡ run_state gather_next [] (flat_map slots_of (drop lead_in blocks))
  gather_is =
      ap (λ w. w.gather) played.gathers
      ∙ window_run Raw lead_in [] blocks
      ∙ raw_window [] (flat_map slots_of (drop lead_in blocks))

  kept_slots : AreSlots saved.words.gather
  kept_slots =
      subst AreSlots (sym gather_is) (gathered_slots [] (flat_map slots_of (drop lead_in blocks)) tt
      (all_slots (drop lead_in blocks) (sized_drop 96 lead_in blocks played.sized)))

  kept_count : length saved.words.gather ≡ min 7 (4 * c.program)
  kept_count =
      omega (
        arith,
        ap length gather_is,
        gathered_count [] (flat_map slots_of (drop lead_in blocks)) (omega arith),
        length-all_slots (drop lead_in blocks),
        length-drop lead_in blocks,
        program_is,
      )

  module _ (back : LivePlayer) (there : IsAt (checkpoint_in (file_of c)) back) where
    at_it : IsAt c back
    at_it = subst (λ (it : Checkpoint). IsAt it back) (same c sound) there

    words_back : back.words ≡ run_state words_next (fresh_words Raw lead_in) blocks
    words_back =
        let form = form_stays (fresh_words Raw lead_in) blocks in
        let to_come : c.to_come ≡ (run_state words_next (fresh_words Raw lead_in) blocks).lead_in =
        omega (arith, lead_in_falls (fresh_words Raw lead_in) blocks, came, played.begun) in
        let gather =
        gathered_again saved.words.gather (min 7 (4 * c.program)) kept_slots (omega (arith, kept_count))
        (sym kept_count)
        ∙ ap (λ w. w.gather) played.gathers in
        at_it.words ∙ (λ i. record { form = sym form i; lead_in = to_come i; gather = gather i })

    pub goes_on : HasPlayed Raw lead_in given back
    goes_on = record {
      sized = played.sized;
      gathers = words_back;
      stands = at_it.stands ∙ played.stands;
      begun = omega (arith, at_it.lead_in, played.begun);
      counted = omega (arith, at_it.blocks, played.counted);
      bad = at_it.bad ∙ played.bad;
    }
