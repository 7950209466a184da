-- From the counts of blocks to the output of `check`.
use Rattle.std.proofs.Common.{◌≡◌, ℕ, ◌-◌, ◌*◌, ◌/◌, ◌%◌, ◌≤◌, ◌==◌, min, List, [], ◌∷◌, ◌++◌, length, length-drop, map, drop, refl, sym, ap, ap₂, ◌∙◌, subst, arith, IfSome, Some, None, Result, Ok, Err}
use Rattle.std.specs.Prelude.{IfOk, IfErr, nat_lt, count_by, is_ok, is_err}
use Rattle.std.specs.declared.option.Option.{Option}
use Rattle.std.specs.List.{flat_map}
use Rattle.std.specs.Io.KnownBytes.{Appends}
use Rattle.std.proofs.KnownBytes.{Appends-nil}
use Rattle.std.proofs.lemmas.List.{length-map}
use Rattle.std.proofs.lemmas.List.FromFn.{length-map-range_with_len}
use Rattle.cdg_io.specs.Change.{from_to}
use Rattle.cdg_io.specs.Moves.{AppendsPrefix}
use Rattle.cdg_io.specs.Run.{run_state, run_gives}
use Rattle.cdg_io.specs.Pump.{units_of, answer_of, IsUnlessFault}
use Rattle.cdg_io.specs.declared.pumping.Pumped.{Pumped}
use Rattle.cdg_io.specs.declared.pumping.PumpStop.{PumpStop}
use Rattle.cdg_io.specs.declared.pumping.PumpStop.TheVariants as pump_stop
use Rattle.cdg_io.specs.Streams.{WritesAtEnd}
use Rattle.cdg_io.proofs.Frames.{feeding, passing}
use Rattle.cdg_io.proofs.Runs.{then_next_second}
use Rattle.cdg_io.proofs.Streaming.{IsWhole}
use Rattle.bit_lists.specs.Counting.{below}
use Rattle.rw_code.specs.Finding.{finding}
use Rattle.raw_subcode.specs.Channels.{unit_size, block_of, blocks_of, symbols_of, program_symbols}
use Rattle.raw_subcode.specs.declared.form.Form.{Form}
use Rattle.raw_subcode.specs.declared.form.Form.TheVariants.{Raw, Sector, Cooked}
use Rattle.rw_interleave.specs.Stream.{word_count, form_word}
use Rattle.q_channel.specs.declared.frame.QFrame.{QFrame}
use Rattle.q_channel.specs.declared.frame.QFault.{QFault}
use Rattle.q_channel.specs.QList.{q_blocks, AreQReadings}
use Rattle.q_channel.proofs.QRuns.{readings_are}
use Rattle.q_channel.proofs.QRuns as q_runs
use Rattle.raw_subcode.specs.Sizes.{most_units}
use Rattle.stream_stages.specs.Calls.{IsAnsweredBy, IsEarly, IsPlayed, at_end, blocks_played}
use Rattle.stream_stages.specs.Steps.{slots_of, words_next, words_give}
use Rattle.stream_stages.specs.Check.{stream_lines, wrong_lines, pack_count_lines, frame_count_lines, check_text, IsCheckListed}
use Rattle.stream_stages.specs.CheckSteps.{count_after, counts_next, frames_next, counting_next, lines_of_counts, has_frames, IsFresh}
use Rattle.stream_stages.specs.Watch.{play_stop, Watches}
use Rattle.stream_stages.specs.declared.counting.FrameCounts.{FrameCounts}
use Rattle.stream_stages.specs.declared.counting.Counting.{Counting}
use Rattle.stream_stages.specs.declared.played.Played.{Played}
use Rattle.stream_stages.specs.declared.played.PlayStop.{PlayStop}
use Rattle.stream_stages.specs.declared.played.PlayStop.TheVariants.{ReadFault, WriteFault, TooLong}
use Rattle.stream_stages.proofs.Slots.{Sized, sized_drop, all_slots_sized, all_slots_together, length-all_slots}
use Rattle.stream_stages.proofs.FormWords.{words_from, words_are, found_in}
use Rattle.stream_stages.proofs.PlayRuns.{block_words}
use Rattle.stream_stages.proofs.Conversion.{program, units_sized, blocks_sized, length-units_of}
use Rattle.stream_stages.proofs.Playing.{units_in}
use Rattle.stream_stages.proofs.Counted.{AreCounted, no_counts, are_counted, counts_run, counting_words, counting_frames, frames_read, frames_not_read, reading_at}
use Rattle.stream_stages.proofs.Views.{recovered_units, few_words, whole_taken, done_tests, torn_tests, long_tests, not_over, is_over, zero_rest, some_rest}

-- ---- the counts of blocks

words_counted : (form : Form) (lead_in : ℕ) (s : Counting) (blocks : List (List ℕ)) → IsFresh form lead_in s
    → length blocks ≤ 1000000
    → AreCounted (words_from form (flat_map slots_of (drop lead_in blocks)))
    (run_state counting_next s blocks).words.second
words_counted form lead_in s blocks fresh few =
    let words : List (List ℕ) = words_from form (flat_map slots_of (drop lead_in blocks)) in
    let run : (run_state counting_next s blocks).words.second ≡ count_after no_counts words =
    ap (λ w. w.second) (counting_words s blocks)
    ∙ then_next_second words_next words_give counts_next s.words blocks
    ∙ counts_run s.words.second (run_gives words_next words_give s.words.first blocks)
    ∙ ap₂ count_after fresh.counts (block_words form lead_in s.words.first blocks fresh.words) in
    subst (AreCounted words) (sym run) (are_counted words (few_words form lead_in blocks few))

-- the readings of the frames of blocks
abbrev readings_for : Form → List (List ℕ) → List (Result QFrame QFault)
readings_for Raw blocks = map reading_at blocks
readings_for Sector blocks = map reading_at blocks
readings_for Cooked blocks = []

frames_are : (form : Form) (blocks : List (List ℕ)) → length blocks ≤ 1000000
    → run_state frames_next (record { read = has_frames form; good = 0; bad = 0 }) blocks
    ≡ record {
      read = has_frames form;
      good = count_by is_ok (readings_for form blocks);
      bad = count_by is_err (readings_for form blocks);
    }
frames_are Raw blocks few = frames_read blocks few
frames_are Sector blocks few = frames_read blocks few
frames_are Cooked blocks few = frames_not_read 0 0 blocks

frames_counted : (form : Form) (lead_in : ℕ) (s : Counting) (blocks : List (List ℕ)) → IsFresh form lead_in s
    → length blocks ≤ 1000000
    → (run_state counting_next s blocks).frames
    ≡ record {
      read = has_frames form;
      good = count_by is_ok (readings_for form blocks);
      bad = count_by is_err (readings_for form blocks);
    }
frames_counted form lead_in s blocks fresh few =
    counting_frames s blocks
    ∙ ap (λ (f : FrameCounts). run_state frames_next f blocks) fresh.frames
    ∙ frames_are form blocks few

-- ---- the lines

same_four : (f : ℕ → ℕ → ℕ → ℕ → List ℕ) (a b c d a' b' c' d' : ℕ) → a ≡ a' → b ≡ b' → c ≡ c' → d ≡ d'
    → f a b c d ≡ f a' b' c' d'
same_four f a b c d a' b' c' d' p q r s = rw (p, q, r, s) refl

lines_are : (form : Form) (lead_in n : ℕ) (end : Counting) (words : List (List ℕ))
    (readings : List (Result QFrame QFault)) → AreCounted words end.words.second
    → end.frames.good ≡ count_by is_ok readings → end.frames.bad ≡ count_by is_err readings
    → length words ≡ word_count form (n - lead_in)
    → lines_of_counts form lead_in n end
    ≡ check_text (min lead_in n) (n - lead_in) words (map finding words) readings
unfolding lines_of_counts check_text
lines_are form lead_in n end words readings c good bad size =
    let join : (xs ys xs' ys' : List ℕ) → xs ≡ xs' → ys ≡ ys' → xs ++ ys ≡ xs' ++ ys' =
    λ xs ys xs' ys' p q. ap₂ (λ (x y : List ℕ). x ++ y) p q in
    join _ _ _ _ (ap (stream_lines (min lead_in n) (n - lead_in)) (sym size))
    (join _ _ _ _ (same_four wrong_lines _ _ _ _ _ _ _ _ c.clean c.one c.two c.bad)
    (join _ _ _ _ (same_four pack_count_lines _ _ _ _ _ _ _ _ c.idle c.graphics c.unknown c.foreign)
    (ap₂ frame_count_lines good bad)))

-- ---- the same by the bytes

sized_blocks : (blocks : List (List ℕ)) → Sized 96 blocks → q_runs.Sized blocks
sized_blocks [] sized = tt
sized_blocks (b ∷ blocks) sized = (sized.0, sized_blocks blocks sized.1)

are_readings : (form : Form) (bytes : List ℕ) (blocks : List (List ℕ)) → blocks_of form bytes ≡ blocks
    → Sized 96 blocks
    → AreQReadings (q_blocks form bytes) (readings_for form blocks)
are_readings Raw bytes blocks e sized =
    subst (λ (bs : List (List ℕ)). AreQReadings bs (map reading_at blocks)) (sym e)
    (readings_are blocks (sized_blocks blocks sized))
are_readings Sector bytes blocks e sized =
    subst (λ (bs : List (List ℕ)). AreQReadings bs (map reading_at blocks)) (sym e)
    (readings_are blocks (sized_blocks blocks sized))
are_readings Cooked bytes blocks e sized = refl

-- the words of blocks by their symbols
words_of_bytes : (form : Form) (blocks : List (List ℕ)) → Sized 96 blocks
    → words_from form (flat_map slots_of blocks)
    ≡ map (form_word form (flat_map symbols_of blocks)) (below (word_count form (length blocks)))
words_of_bytes form blocks sized =
    words_are form (flat_map slots_of blocks) (length blocks) (all_slots_sized blocks sized)
    (length-all_slots blocks)
    ∙ ap (λ (symbols : List ℕ). map (form_word form symbols) (below (word_count form (length blocks))))
    (all_slots_together blocks sized)

checked_blocks : (form : Form) (lead_in : ℕ) (s : Counting) (bytes : List ℕ) (n : ℕ) (end : Counting)
    → IsFresh form lead_in s → n ≤ most_units → IsWhole (unit_size form) n bytes
    → end ≡ run_state counting_next s (map (block_of form) (units_of (unit_size form) n bytes))
    → IsCheckListed form lead_in bytes (lines_of_counts form lead_in n end) end.words.second.bad
checked_blocks form lead_in s bytes n end fresh few whole_units e =
    let size : ℕ = unit_size form in
    let units : List (List ℕ) = units_of size n bytes in
    let blocks : List (List ℕ) = map (block_of form) units in
    let many : length blocks ≡ n = length-map units (block_of form) ∙ length-units_of size n bytes in
    let few_blocks : length blocks ≤ 1000000 = omega (arith, few, many) in
    let all_units : units_of size (length bytes / size) bytes ≡ units =
    ap (λ k. units_of size k bytes) (units_in form n bytes whole_units) in
    let all_blocks : blocks_of form bytes ≡ blocks =
    ap (λ (us : List (List ℕ)). map (block_of form) us) all_units in
    let sized : Sized 96 blocks = blocks_sized form units (units_sized size n bytes whole_units.fits) in
    let words : List (List ℕ) = words_from form (flat_map slots_of (drop lead_in blocks)) in
    let counted : AreCounted words end.words.second =
    subst (λ (c : Counting). AreCounted words c.words.second) (sym e)
    (words_counted form lead_in s blocks fresh few_blocks) in
    let frames = ap (λ (c : Counting). c.frames) e ∙ frames_counted form lead_in s blocks fresh few_blocks in
    let program_many : length (drop lead_in blocks) ≡ n - lead_in =
    length-drop lead_in blocks ∙ ap (λ k. k - lead_in) many in
    let words_is : words
    ≡ map (form_word form (flat_map symbols_of (drop lead_in blocks)))
    (below (word_count form (length (drop lead_in blocks)))) =
    words_of_bytes form (drop lead_in blocks) (sized_drop 96 lead_in blocks sized) in
    let words_many : length words ≡ word_count form (n - lead_in) =
    ap length words_is
    ∙ length-map-range_with_len (form_word form (flat_map symbols_of (drop lead_in blocks))) 0 _
    ∙ ap (word_count form) program_many in
    let reported : words
    ≡ map (form_word form (program_symbols form bytes lead_in))
    (below (word_count form (length (blocks_of form bytes) - lead_in))) =
    words_is
    ∙ ap₂ (λ (symbols : List ℕ) k. map (form_word form symbols) (below (word_count form k)))
    (ap (λ (bs : List (List ℕ)). flat_map symbols_of (drop lead_in bs)) (sym all_blocks))
    (program_many ∙ ap (λ k. k - lead_in) (sym many ∙ ap length (sym all_blocks))) in
    let blocks_many : n ≡ length (blocks_of form bytes) = sym many ∙ ap length (sym all_blocks) in
    record {
      found = found_in form (program form lead_in units);
      recovered =
          recovered_units form lead_in bytes units all_units (units_sized size n bytes whole_units.fits);
      readings = readings_for form blocks;
      read = are_readings form bytes blocks all_blocks sized;
      text_is =
          lines_are form lead_in n end words (readings_for form blocks) counted
          (ap (λ (f : FrameCounts). f.good) frames) (ap (λ (f : FrameCounts). f.bad) frames) words_many
          ∙ ap₂ (λ k (ws : List (List ℕ)).
          check_text (min lead_in k) (k - lead_in) ws (map finding words) (readings_for form blocks))
          blocks_many reported;
      bad_is = counted.bad;
    }

-- a call that writes at the end wrote nothing if the reading stopped
module _ {S : Type 0} (writes : List ℕ → List ℕ → ℕ → Type 0) (form : Form) (lead_in : ℕ)
    (next : S → List ℕ → S) (left left' held held' : Option (List ℕ)) (s s' : S) (taken : List ℕ) where
  abbrev Stops : PlayStop → Type 0
  Stops stop =
      WritesAtEnd (at_end writes form lead_in) (passing (from_to left left') (from_to held held')) (Err stop)
      taken

  stopped_early : (stop : PumpStop) → held' ≡ held
      → Watches form next (feeding (from_to left left') (from_to s s')) (Err stop) taken
      → Stops (play_stop stop)
  stopped_early pump_stop.ReadFault same w = record {
    taken_from = w.taken_from;
    within = w.within;
    done = tt;
    stopped = λ other e not. subst (λ (h : Option (List ℕ)). Appends held h []) (sym same) (Appends-nil held);
    ended = λ stop e not. let reported : ReadFault ≡ stop = cc in absurd (not (subst IsEarly reported refl));
    cut = λ e. (cc);
  }
  stopped_early pump_stop.WriteFault same w = absurd (w.no_write refl)
  stopped_early (pump_stop.Torn unit) same w = record {
    taken_from = w.taken_from;
    within = w.within;
    done = tt;
    stopped = λ other e not. subst (λ (h : Option (List ℕ)). Appends held h []) (sym same) (Appends-nil held);
    ended = λ stop e not. w.torn unit refl;
    cut = λ e. (cc);
  }
  stopped_early pump_stop.TooLong same w = record {
    taken_from = w.taken_from;
    within = w.within;
    done = tt;
    stopped = λ other e not. subst (λ (h : Option (List ℕ)). Appends held h []) (sym same) (Appends-nil held);
    ended = λ stop e not. let reported : TooLong ≡ stop = cc in absurd (not (subst IsEarly reported refl));
    cut = λ e. (cc);
  }

  pub at_end_stop : (stop : PumpStop) (answer : PlayStop) → held' ≡ held
      → Watches form next (feeding (from_to left left') (from_to s s')) (Err stop) taken
      → answer ≡ play_stop stop
      → Stops answer
  at_end_stop stop answer same w e = subst Stops (sym e) (stopped_early stop same w)

-- ---- the answers

module _ (form : Form) (lead_in : ℕ) (left left' held held' : Option (List ℕ)) (s s' : Counting)
    (taken : List ℕ) where
  abbrev Calls : Result Played PlayStop → Type 0
  Calls result =
      WritesAtEnd (at_end (IsCheckListed form lead_in) form lead_in)
      (passing (from_to left left') (from_to held held')) result taken

  played_for : (pumped : Pumped) (played : Played) → IsFresh form lead_in s
      → Watches form counting_next (feeding (from_to left left') (from_to s s')) (Ok pumped) taken
      → played.blocks ≡ pumped.units - lead_in → played.bad ≡ s'.words.second.bad
      → IsPlayed (IsCheckListed form lead_in) (blocks_played form lead_in) taken played
      (lines_of_counts form lead_in pumped.units s')
  played_for pumped played fresh w blocks bad =
      let whole_units = whole_taken form pumped.units taken w.done.1 in
      record {
        blocks = blocks ∙ ap (λ n. n - lead_in) (sym (units_in form pumped.units taken whole_units));
        written =
            subst (IsCheckListed form lead_in taken (lines_of_counts form lead_in pumped.units s')) (sym bad)
            (checked_blocks form lead_in s taken pumped.units s' fresh w.done.2 whole_units w.done.3);
      }

  pub checks_done : (pumped : Pumped) (answer : Result Played PlayStop) → IsFresh form lead_in s
      → Watches form counting_next (feeding (from_to left left') (from_to s s')) (Ok pumped) taken
      → IfOk answer (λ played. (played.blocks ≡ pumped.units - lead_in)
      × (played.bad ≡ s'.words.second.bad)
      × Appends held held' (lines_of_counts form lead_in pumped.units s'))
      → IfErr answer
      (λ stop. (stop ≡ WriteFault) × AppendsPrefix held held' (lines_of_counts form lead_in pumped.units s'))
      → Calls answer
  checks_done pumped (Ok played) fresh w ok part = record {
    taken_from = w.taken_from;
    within = w.within;
    done = (
      w.done.0,
      (lines_of_counts form lead_in pumped.units s', played_for pumped played fresh w ok.0 ok.1, ok.2),
    );
    stopped = λ stop e not. (cc);
    ended = λ stop e not. (cc);
    cut = λ e. (cc);
  }
  checks_done pumped (Err stop) fresh w ok part = record {
    taken_from = w.taken_from;
    within = w.within;
    done = tt;
    stopped = λ other e not. let same : stop ≡ other = cc in absurd (not (sym same ∙ part.0));
    ended = λ other e not. w.done.0;
    cut = λ e.
        let played : Played = record { blocks = pumped.units - lead_in; bad = s'.words.second.bad } in (
          w.done.0,
          (
            lines_of_counts form lead_in pumped.units s',
            (played, played_for pumped played fresh w refl refl),
            part.1,
          ),
        );
  }

pub answered_done : (size : ℕ) (pumped : Pumped) (played : Played) (left : Option (List ℕ))
    → IfSome left (λ all. IsUnlessFault (Ok pumped) (answer_of size most_units (length all)))
    → IfSome left (λ all. IsAnsweredBy (Ok played) size (length all))
answered_done size pumped played None e = tt
answered_done size pumped played (Some all) e =
    let (within, whole, units) =
    done_tests (nat_lt (most_units * size) (length all)) (length all % size == 0) (length all / size) pumped
    e in
    (not_over (most_units * size) (length all) within, zero_rest (length all % size) whole)

pub checked_done : (size : ℕ) (pumped : Pumped) (answer : Result Played PlayStop) (left : Option (List ℕ))
    (X : PlayStop → Type 0) → IfErr answer (λ stop. (stop ≡ WriteFault) × X stop)
    → IfSome left (λ all. IsUnlessFault (Ok pumped) (answer_of size most_units (length all)))
    → IfSome left (λ all. IsAnsweredBy answer size (length all))
checked_done size pumped answer None X part e = tt
checked_done size pumped (Ok played) (Some all) X part e = answered_done size pumped played (Some all) e
checked_done size pumped (Err stop) (Some all) X part e =
    subst (λ (a : PlayStop). IsAnsweredBy (Err a) size (length all)) (sym part.0) tt

answered_stop : (size : ℕ) (stop : PumpStop) (all : List ℕ)
    → IsUnlessFault (Err stop) (answer_of size most_units (length all))
    → IsAnsweredBy (Err (play_stop stop)) size (length all)
answered_stop size pump_stop.ReadFault all e = tt
answered_stop size pump_stop.WriteFault all e = tt
answered_stop size (pump_stop.Torn unit) all e =
    let (within, whole, units) =
    torn_tests (nat_lt (most_units * size) (length all)) (length all % size == 0) (length all / size) unit
    e in
    (not_over (most_units * size) (length all) within, some_rest (length all % size) whole, units)
answered_stop size pump_stop.TooLong all e =
    is_over (most_units * size) (length all)
    (long_tests (nat_lt (most_units * size) (length all)) (length all % size == 0) (length all / size) e)

pub checked_stop : (size : ℕ) (stop : PumpStop) (answer : PlayStop) (left : Option (List ℕ))
    → answer ≡ play_stop stop
    → IfSome left (λ all. IsUnlessFault (Err stop) (answer_of size most_units (length all)))
    → IfSome left (λ all. IsAnsweredBy (Err answer) size (length all))
checked_stop size stop answer None reported e = tt
checked_stop size stop answer (Some all) reported e =
    subst (λ (a : PlayStop). IsAnsweredBy (Err a) size (length all)) (sym reported)
    (answered_stop size stop all e)
