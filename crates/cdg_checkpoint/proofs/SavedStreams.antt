-- The checkpoint of a whole stream.
use Rattle.std.proofs.Common.{◌≡◌, ◌≢◌, ℕ, ◌-◌, ◌*◌, ◌/◌, ◌≤◌, List, length, take, drop, refl, sym, ap, ◌∙◌, subst, arith, length-drop, Result, Ok, Err}
use Rattle.std.specs.Prelude.{Option, min}
use Rattle.std.specs.List.{flat_map}
use Rattle.std.specs.Io.KnownBytes.{Appends, Consumes}
use Rattle.std.proofs.lemmas.List.{take_all}
use Rattle.cdg_io.specs.Moves.{AppendsPrefix}
use Rattle.cdg_io.specs.Run.{run_state}
use Rattle.cdg_io.specs.Change.{from_to}
use Rattle.cdg_io.proofs.Frames.{feeding, passing}
use Rattle.cdg_io.specs.Pump.{units_of}
use Rattle.cdg_io.specs.declared.pumping.Pumped.{Pumped}
use Rattle.cdg_io.specs.declared.pumping.PumpStop.{PumpStop}
use Rattle.cdg_io.specs.declared.pumping.PumpStop.TheVariants.{ReadFault, WriteFault, Torn, TooLong}
use Rattle.cdg_io.specs.declared.stage.Then.{Then}
use Rattle.cdg_io.proofs.Streaming.{IsWhole}
use Rattle.rw_interleave.specs.Interleave.{whole_packs}
use Rattle.raw_subcode.specs.Channels.{blocks_of, symbols_of, program_symbols}
use Rattle.raw_subcode.specs.Sizes.{most_units}
use Rattle.raw_subcode.specs.declared.form.Form.TheVariants.{Raw}
use Rattle.rw_interleave.specs.Stream.{bad_count}
use Rattle.stream_stages.specs.Screen.{AreMeant, moment}
use Rattle.stream_stages.specs.Watch.{IsViewed}
use Rattle.stream_stages.specs.declared.block_words.BlockWords.{BlockWords}
use Rattle.stream_stages.specs.declared.painting.Painting.{Painting}
use Rattle.stream_stages.proofs.Slots.{sized_drop, length-all_symbols}
use Rattle.stream_stages.proofs.PumpedBlocks.{plain_blocks}
use Rattle.stream_stages.proofs.Conversion.{units_sized, length-units_of}
use Rattle.stream_stages.proofs.Playing.{units_in}
use Rattle.stream_stages.proofs.Views.{IsReady, paintings_next, viewed_bytes, whole_taken}
use Rattle.cdg_checkpoint.specs.Tracked.{TracksBlocks, words_drawn}
use Rattle.cdg_checkpoint.specs.Saved.{IsSaved, KeepsFile, Saves, last_symbols}
use Rattle.cdg_checkpoint.specs.Keeping.{IsKept}
use Rattle.cdg_checkpoint.proofs.Tails.{kept_after}
use Rattle.cdg_io.proofs.Runs.{then_next_first}
use Rattle.rw_interleave.specs.Gathering.{kept_symbols}
use Rattle.stream_stages.specs.Steps.{words_give, words_next}
use Rattle.stream_stages.specs.Drawn.{painting_next}

-- ---- the blocks of a stream of whole blocks

pub blocks_are : (n : ℕ) (bytes : List ℕ) → IsWhole 96 n bytes → blocks_of Raw bytes ≡ units_of 96 n bytes
blocks_are n bytes whole =
    plain_blocks Raw refl _ ∙ ap (λ k. units_of 96 k bytes) (units_in Raw n bytes whole)

pub symbols_are : (lead_in n : ℕ) (bytes : List ℕ) → IsWhole 96 n bytes
    → program_symbols Raw bytes lead_in ≡ flat_map symbols_of (drop lead_in (units_of 96 n bytes))
symbols_are lead_in n bytes whole =
    ap (λ (bs : List (List ℕ)). flat_map symbols_of (drop lead_in bs)) (blocks_are n bytes whole)

pub symbols_count : (lead_in n : ℕ) (bytes : List ℕ) → IsWhole 96 n bytes
    → length (program_symbols Raw bytes lead_in) ≡ 96 * (n - lead_in)
symbols_count lead_in n bytes whole =
    ap length (symbols_are lead_in n bytes whole)
    ∙ length-all_symbols (drop lead_in (units_of 96 n bytes))
    (sized_drop 96 lead_in _ (units_sized 96 n bytes whole.fits))
    ∙ ap (λ k. 96 * k)
    (length-drop lead_in (units_of 96 n bytes) ∙ ap (λ k. k - lead_in) (length-units_of 96 n bytes))

module _ (lead_in n : ℕ) (bytes file : List ℕ) (s s' : Then BlockWords Painting)
    (ready : IsReady Raw lead_in 1000000 s) (few : n ≤ 1000000) (size : length bytes ≡ n * 96)
    (run : s' ≡ run_state words_drawn s (units_of 96 n bytes)) (kept : IsKept n lead_in s' file) where
  whole : IsWhole 96 n bytes
  whole = whole_taken Raw n bytes size

  units : List (List ℕ)
  units = units_of 96 n bytes

  viewed : IsViewed (moment Raw lead_in 1000000) bytes s'.second.screen s'.second.bad
  viewed =
      viewed_bytes Raw lead_in 1000000 s bytes n s'.second ready few whole
      (ap (λ (t : Then BlockWords Painting). t.second) run
      ∙ ap (λ (us : List (List ℕ)). (run_state paintings_next s us).second)
      (sym (plain_blocks Raw refl (units_of 96 n bytes))))

  all_found : take (whole_packs 1000000) viewed.found ≡ viewed.found
  all_found =
      take_all (whole_packs 1000000) viewed.found
      (omega (arith, viewed.recovered.count, symbols_count lead_in n bytes whole, few))

  slots : kept_symbols s'.first.gather ≡ last_symbols 168 (program_symbols Raw bytes lead_in)
  slots =
      ap (λ (t : Then BlockWords Painting). kept_symbols t.first.gather) run
      ∙ ap (λ (w : BlockWords). kept_symbols w.gather)
      (then_next_first words_next words_give painting_next s (units_of 96 n bytes))
      ∙ kept_after lead_in s.first (units_of 96 n bytes) ready.words (units_sized 96 n bytes whole.fits)
      ∙ ap (last_symbols 168) (sym (symbols_are lead_in n bytes whole))

  pub is_saved : IsSaved lead_in bytes (record { units = n }) file
  is_saved =
      let count : length bytes / 96 ≡ n = units_in Raw n bytes whole in
      record {
        units = sym count;
        checkpoint = kept.checkpoint;
        is = record {
          found = viewed.found;
          recovered = viewed.recovered;
          instrs = viewed.instrs;
          meant =
              subst (λ (found : List (Option (List ℕ))). AreMeant found viewed.instrs) all_found viewed.shown;
          to_come_is = kept.to_come_is ∙ ap (λ k. lead_in - k) (sym count);
          lead_in_is = kept.lead_in_is ∙ ap (λ k. min k lead_in) (sym count);
          program_is = kept.program_is ∙ ap (λ k. k - lead_in) (sym count);
          bad_is = kept.bad_is ∙ viewed.bad_is ∙ ap bad_count all_found;
          slots_are = kept.slots_are ∙ slots;
          stands = kept.stands ∙ viewed.stands;
        };
        text_is = kept.file_is;
      }

-- ---- the answers

abbrev failed : PumpStop → Result Pumped PumpStop
failed stop = Err stop

module _ (lead_in : ℕ) (left left' held held' : Option (List ℕ)) (s s' : Then BlockWords Painting)
    (taken file : List ℕ) (pumped : Pumped) (ready : IsReady Raw lead_in 1000000 s)
    (w : TracksBlocks most_units words_drawn (feeding (from_to left left') (from_to s s')) (Ok pumped) taken)
    (kept : IsKept pumped.units lead_in s' file) where
  pub saved : IsSaved lead_in taken pumped file
  saved = is_saved lead_in pumped.units taken file s s' ready w.done.2 w.done.1 w.done.3 kept

  pub saves_done : (text : List ℕ) → text ≡ file → Appends held held' text
      → Saves lead_in (passing (from_to left left') (from_to held held')) (Ok pumped) taken
  saves_done text e put = record {
    taken_from = w.taken_from;
    within = w.within;
    done = (w.done.0, (file, saved, subst (λ (t : List ℕ). Appends held held' t) e put));
    stopped = λ stop e not. (cc);
    ended = λ stop e not. (cc);
    cut = λ e. (cc);
  }

  pub saves_cut : (text : List ℕ) → text ≡ file → AppendsPrefix held held' text
      → Saves lead_in (passing (from_to left left') (from_to held held')) (Err WriteFault) taken
  saves_cut text e put = record {
    taken_from = w.taken_from;
    within = w.within;
    done = tt;
    stopped = λ stop e not. let same : WriteFault ≡ stop = cc in absurd (not (sym same));
    ended = λ stop e not. w.done.0;
    cut = λ h. (w.done.0, (file, (pumped, saved), subst (λ (t : List ℕ). AppendsPrefix held held' t) e put));
  }

  pub keeps_done : (before text : List ℕ) → text ≡ file → Appends held held' text
      → Consumes left left' taken
      × KeepsFile lead_in taken (from_to held held') (from_to before file) (Ok pumped)
  keeps_done before text e put =
      (w.taken_from, (saved, subst (λ (t : List ℕ). Appends held held' t) e put))

  pub keeps_cut : (before text : List ℕ) → text ≡ file → AppendsPrefix held held' text
      → Consumes left left' taken
      × KeepsFile lead_in taken (from_to held held') (from_to before file) (Err WriteFault)
  keeps_cut before text e put =
      (w.taken_from, (pumped, saved, subst (λ (t : List ℕ). AppendsPrefix held held' t) e put))

-- a call with any other stop leaves the file as it was
pub keeps_stop : (lead_in : ℕ) (taken : List ℕ) (held held' : Option (List ℕ)) (before after : List ℕ)
    (stop : PumpStop) → failed stop ≢ Err WriteFault → after ≡ before
    → KeepsFile lead_in taken (from_to held held') (from_to before after) (Err stop)
keeps_stop lead_in taken held held' before after WriteFault no_write same = absurd (no_write refl)
keeps_stop lead_in taken held held' before after ReadFault no_write same = same
keeps_stop lead_in taken held held' before after TooLong no_write same = same
keeps_stop lead_in taken held held' before after (Torn unit) no_write same = same
