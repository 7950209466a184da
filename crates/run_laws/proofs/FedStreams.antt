-- A player that was fed a stream has the checkpoint of the stream.
use Rattle.std.proofs.Common.{◌≡◌, ℕ, ◌-◌, ◌*◌, ◌^◌, ◌/◌, ◌≤◌, List, [], ◌∷◌, length, get_or, map, drop, refl, sym, ap, ap₂, ◌∙◌, subst, arith, None, Some, length-drop}
use Rattle.std.specs.Prelude.{Option, min, is_none}
use Rattle.std.specs.List.{flat_map}
use Rattle.std.proofs.lemmas.List.{ext_get_or}
use Rattle.std.proofs.lemmas.List.Sums.{count_by-le-length}
use Rattle.cdg_io.specs.Run.{run_state}
use Rattle.cdg_io.specs.Pump.{units_of}
use Rattle.cdg_io.specs.declared.pumping.Pumped.{Pumped}
use Rattle.cdg_io.proofs.Streaming.{IsWhole}
use Rattle.raw_subcode.specs.Channels.{blocks_of, program_symbols, symbols_of}
use Rattle.raw_subcode.specs.declared.form.Form.TheVariants.{Raw}
use Rattle.rw_code.specs.Codeword.{IsWord}
use Rattle.rw_code.specs.Finding.{finding}
use Rattle.rw_code.proofs.Finding.{only_finding}
use Rattle.rw_interleave.specs.Gathering.{kept_symbols}
use Rattle.rw_interleave.specs.Interleave.{word_of}
use Rattle.rw_interleave.specs.Stream.{IsRecovered, bad_count}
use Rattle.cdg_instructions.specs.declared.instr.Instr.{Instr}
use Rattle.cdg_instructions.proofs.Meaning.{only_meaning}
use Rattle.cdg_screen.specs.Standing.{blank, standing_after}
use Rattle.cdg_screen.proofs.Turns.{whole_after}
use Rattle.cdg_checkpoint.specs.Checkpoint.{Checkpoint, checkpoint_in, file_of}
use Rattle.stream_stages.specs.Screen.{AreMeant}
use Rattle.stream_stages.specs.Steps.{fresh_words, words_next}
use Rattle.stream_stages.proofs.Conversion.{length-units_of, units_sized}
use Rattle.stream_stages.proofs.FormWords.{found_in, recovered}
use Rattle.stream_stages.proofs.Slots.{Sized, length-all_symbols, sized_drop, symbols_small}
use Rattle.stream_stages.proofs.Views.{whole_taken}
use Rattle.cdg_checkpoint.specs.Resumed.{IsFirstPart}
use Rattle.cdg_checkpoint.specs.Saved.{IsCheckpointOf, IsSaved, last_symbols}
use Rattle.cdg_checkpoint.proofs.GoneOn.{gathered_word}
use Rattle.cdg_checkpoint.proofs.SavedStreams.{blocks_are}
use Rattle.cdg_checkpoint.proofs.Tails.{kept_after}
use Rattle.live_player.specs.Lives.{Given, HasPlayed, IsLiveView, bad_words_in, blocks_in, instructions_in, standing_on}
use Rattle.live_player.specs.Saving.{IsAt, checkpoint_of}
use Rattle.live_player.specs.declared.live.LivePlayer.{LivePlayer}
use Rattle.live_player.proofs.LiveViews.{live_view}
use Rattle.live_player.proofs.Saved.{goes_on}
use Rattle.live_player.proofs.Words.{words_of_stream}
use Rattle.run_laws.specs.Players.{AreBlocksOf}
use Rattle.run_laws.proofs.HeldScreens.{held, held_stands}

-- ---- a stream has one checkpoint

one_meant : (found : List (Option (List ℕ))) (one other : List Instr) → AreMeant found one
    → AreMeant found other
    → one ≡ other
one_meant [] one other a b = a ∙ sym b
one_meant (None ∷ found) one other a b = one_meant found one other a b
one_meant (Some word ∷ found) [] other a b = absurd a
one_meant (Some word ∷ found) (x ∷ one) [] a b = absurd b
one_meant (Some word ∷ found) (x ∷ one) (y ∷ other) a b =
    ap₂ (λ z (zs : List Instr). z ∷ zs) (only_meaning word x a.0 ∙ sym (only_meaning word y b.0))
    (one_meant found one other a.1 b.1)

one_recovered : (blocks : List (List ℕ)) (one other : List (Option (List ℕ)))
    → IsRecovered Raw (flat_map symbols_of blocks) one → IsRecovered Raw (flat_map symbols_of blocks) other
    → one ≡ other
one_recovered blocks one other a b =
    let symbols : List ℕ = flat_map symbols_of blocks in
    let word : (k : ℕ) → IsWord (word_of symbols k) = λ k. gathered_word symbols k (symbols_small blocks) in
    ext_get_or None one other (a.count ∙ sym b.count) (λ k lt.
    only_finding (word_of symbols k) (word k) (get_or one k None) (a.each k (omega (arith, lt, a.count)))
    ∙ sym
    (only_finding (word_of symbols k) (word k) (get_or other k None) (b.each k (omega (arith, lt, a.count)))))

one_checkpoint : (bytes : List ℕ) (lead_in : ℕ) (c d : Checkpoint) → IsCheckpointOf bytes lead_in c
    → IsCheckpointOf bytes lead_in d
    → c ≡ d
one_checkpoint bytes lead_in c d a b =
    let found : a.found ≡ b.found =
    one_recovered (drop lead_in (blocks_of Raw bytes)) a.found b.found a.recovered b.recovered in
    let instrs : a.instrs ≡ b.instrs =
    one_meant b.found a.instrs b.instrs
    (subst (λ (f : List (Option (List ℕ))). AreMeant f a.instrs) found a.meant) b.meant in
    let to_come : c.to_come ≡ d.to_come = a.to_come_is ∙ sym b.to_come_is in
    let before : c.lead_in ≡ d.lead_in = a.lead_in_is ∙ sym b.lead_in_is in
    let program : c.program ≡ d.program = a.program_is ∙ sym b.program_is in
    let bad : c.bad ≡ d.bad = a.bad_is ∙ ap bad_count found ∙ sym b.bad_is in
    let slots : c.slots ≡ d.slots = a.slots_are ∙ sym b.slots_are in
    let stands : c.standing ≡ d.standing = a.stands ∙ ap (standing_after blank) instrs ∙ sym b.stands in
    λ i. record {
      to_come = to_come i;
      lead_in = before i;
      program = program i;
      bad = bad i;
      slots = slots i;
      standing = stands i;
    }

-- ---- the blocks of a stream

module _ (lead_in : ℕ) (given : List Given) (bytes : List ℕ) (first : IsFirstPart lead_in bytes)
    (fed : AreBlocksOf bytes given) where
  abbrev blocks : List (List ℕ)
  blocks = blocks_in given

  abbrev n : ℕ
  n = length bytes / 96

  size : length bytes ≡ n * 96
  size = omega (arith, first.whole)

  whole : IsWhole 96 n bytes
  whole = whole_taken Raw n bytes size

  units_are : blocks ≡ units_of 96 n bytes
  units_are = fed.0 ∙ blocks_are n bytes whole

  sized : Sized 96 blocks
  sized = subst (Sized 96) (sym units_are) (units_sized 96 n bytes whole.fits)

  count : length blocks ≡ n
  count = ap length units_are ∙ length-units_of 96 n bytes

  few : length blocks ≤ 1000000
  few = omega (arith, count, first.most)

  symbols_same : flat_map symbols_of (drop lead_in blocks) ≡ program_symbols Raw bytes lead_in
  symbols_same = ap (λ (bs : List (List ℕ)). flat_map symbols_of (drop lead_in bs)) fed.0

  found_bad : bad_words_in Raw lead_in blocks ≡ bad_count (found_in Raw (drop lead_in blocks))
  found_bad =
      ap (λ (ws : List (List ℕ)). bad_count (map finding ws)) (sym (words_of_stream Raw lead_in blocks sized))

  found_all : IsRecovered Raw (flat_map symbols_of (drop lead_in blocks)) (found_in Raw (drop lead_in blocks))
  found_all = recovered Raw (drop lead_in blocks) (sized_drop 96 lead_in blocks sized)

  found_count : length (found_in Raw (drop lead_in blocks)) ≤ 4000000
  found_count =
      omega (
        arith,
        found_all.count,
        length-all_symbols (drop lead_in blocks) (sized_drop 96 lead_in blocks sized),
        length-drop lead_in blocks,
        few,
      )

  -- ---- a player that was fed these blocks

  module _ (saved : LivePlayer) (played : HasPlayed Raw lead_in given saved) where
    view : IsLiveView Raw lead_in blocks (standing_on saved)
    view = live_view Raw lead_in given saved played fed.1

    bad_is : saved.bad ≡ bad_count view.found
    bad_is =
        let same : bad_count (found_in Raw (drop lead_in blocks)) ≡ bad_count view.found =
        ap bad_count (one_recovered (drop lead_in blocks) (found_in Raw (drop lead_in blocks)) view.found
        found_all view.recovered) in
        let few_bad : bad_count (found_in Raw (drop lead_in blocks))
        ≤ length (found_in Raw (drop lead_in blocks)) =
        count_by-le-length is_none (found_in Raw (drop lead_in blocks)) in
        omega (arith, played.bad, found_bad, same, few_bad, found_count)

    came : saved.blocks ≡ n
    came = omega (arith, played.counted, count, few)

    slots_are : kept_symbols saved.words.gather ≡ last_symbols 168 (program_symbols Raw bytes lead_in)
    slots_are =
        ap (λ w. kept_symbols w.gather) played.gathers
        ∙ kept_after lead_in (fresh_words Raw lead_in) blocks refl sized
        ∙ ap (last_symbols 168) symbols_same

    player_checkpoint : IsCheckpointOf bytes lead_in (checkpoint_of saved)
    player_checkpoint = record {
      found = view.found;
      recovered =
          subst (λ (symbols : List ℕ). IsRecovered Raw symbols view.found) symbols_same view.recovered;
      instrs = view.instrs;
      meant = view.meant;
      to_come_is = omega (arith, played.begun, came);
      lead_in_is = omega (arith, played.begun, came);
      program_is = omega (arith, played.begun, came);
      bad_is = bad_is;
      slots_are = slots_are;
      stands = view.stands;
    }

    pub player_is_saved : IsSaved lead_in bytes (record { units = length bytes / 96 })
        (file_of (checkpoint_of saved))
    player_is_saved = record {
      units = refl;
      checkpoint = checkpoint_of saved;
      is = player_checkpoint;
      text_is = refl;
    }

  -- ---- a player that is restored from their checkpoint

  abbrev ideal : LivePlayer
  ideal = record {
    words = run_state words_next (fresh_words Raw lead_in) blocks;
    screen = held (standing_after blank (instructions_in Raw lead_in given));
    lead_in = lead_in;
    blocks = min (length blocks) (2 ^ 32 - 1);
    bad = min (bad_words_in Raw lead_in blocks) (2 ^ 32 - 1);
  }

  ideal_played : HasPlayed Raw lead_in given ideal
  ideal_played = record {
    sized = sized;
    gathers = refl;
    stands = held_stands _ (whole_after blank (instructions_in Raw lead_in given));
    begun = refl;
    counted = refl;
    bad = refl;
  }

  pub brought_back : (file : List ℕ) (pumped : Pumped) → IsSaved lead_in bytes pumped file
      → (back : LivePlayer) → IsAt (checkpoint_in file) back
      → HasPlayed Raw lead_in given back
  brought_back file pumped saved back there =
      let same : saved.checkpoint ≡ checkpoint_of ideal =
      one_checkpoint bytes lead_in saved.checkpoint (checkpoint_of ideal) saved.is
      (player_checkpoint ideal ideal_played) in
      let file_is : file ≡ file_of (checkpoint_of ideal) = saved.text_is ∙ ap file_of same in
      goes_on lead_in given ideal ideal_played first.lead_in_most few back
      (subst (λ (f : List ℕ). IsAt (checkpoint_in f) back) file_is there)
