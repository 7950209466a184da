-- The answers for a resumed stream.
use Rattle.std.proofs.Common.{◌≡◌, ℕ, ◌+◌, ◌-◌, ◌*◌, ◌/◌, ◌%◌, ◌==◌, ◌<◌, ◌≤◌, Bool, true, false, Some, None, List, [], length, get_or, take, drop, refl, sym, ap, ap₂, ◌∙◌, subst, arith, length-drop, Result, Ok, Err, IfSome, inl, inr}
use Rattle.std.specs.Prelude.{Option, nat_lt, if◌then◌else◌}
use Rattle.std.proofs.lemmas.Bool.Decides.{leb_tells}
use Rattle.std.proofs.lemmas.List.{get_or-drop, get_or-take, length-take, length-take-le}
use Rattle.std.proofs.Math.ListN.{get_or-eq_default}
use Rattle.cdg_io.specs.Change.{from_to}
use Rattle.cdg_io.proofs.Frames.{feeding}
use Rattle.cdg_io.specs.Pump.{IsUnlessFault, answer_of}
use Rattle.cdg_io.specs.declared.pumping.Pumped.{Pumped}
use Rattle.cdg_io.specs.declared.pumping.PumpStop.{PumpStop}
use Rattle.cdg_io.specs.declared.pumping.PumpStop.TheVariants as pump_stop
use Rattle.cdg_io.specs.declared.stage.Then.{Then}
use Rattle.raw_subcode.specs.declared.form.Form.TheVariants.{Raw}
use Rattle.cdg_io.specs.Run.{run_state}
use Rattle.rw_interleave.specs.Gathering.{gather_next}
use Rattle.cdg_checkpoint.specs.Checkpoint.{Checkpoint, checkpoint_in}
use Rattle.cdg_checkpoint.specs.Table.{IsCheckpointFile}
use Rattle.stream_stages.specs.declared.block_words.BlockWords.{BlockWords}
use Rattle.stream_stages.specs.declared.painting.Painting.{Painting}
use Rattle.stream_stages.proofs.Playing.{units_in}
use Rattle.stream_stages.proofs.Views.{done_tests, torn_tests, not_over, is_over, zero_rest, some_rest, whole_taken}
use Rattle.cdg_checkpoint.specs.Tracked.{TracksBlocks, words_drawn}
use Rattle.cdg_checkpoint.specs.Resumed.{GoesOn, IsGoneOnBy, blocks_after, blocks_left, packs_until, reached, saved_slots, time_after}
use Rattle.cdg_checkpoint.specs.declared.stops.Resumed.{Resumed}
use Rattle.cdg_checkpoint.specs.declared.stops.ResumeStop.{ResumeStop}
use Rattle.cdg_checkpoint.specs.declared.stops.ResumeStop.TheVariants.{PastEnd, Torn}
use Rattle.cdg_checkpoint.proofs.Restored.{standing_is_whole}
use Rattle.cdg_checkpoint.proofs.GoneOn.{IsBroughtBack, IsSound, gone_on}

take_few : (n : ℕ) (xs : List ℕ) → length (take n xs) ≤ n
take_few n xs = omega (arith, length-take n xs)

-- the checkpoint in a file is sound
slots_small : (file : List ℕ) (i : ℕ) → ((k : ℕ) → k < 168 → get_or file (24 + k) 0 < 64)
    → get_or (take 168 (drop 24 file)) i 0 < 64
slots_small file i small =
    let P : ℕ → Type 0 = λ n. n < 64 in
    elim (leb_tells 168 i) [
      | inl past ↦
          subst P (sym (get_or-eq_default (take 168 (drop 24 file)) 0
          (omega (arith, past.1, take_few 168 (drop 24 file))))) (omega arith)
      | inr before ↦ let lt : i < 168 = omega (arith, before.1) in
          subst P (sym (get_or-take 168 (drop 24 file) i 0 lt ∙ get_or-drop 24 file i 0)) (small i lt)
    ]

pub sound_file : (file : List ℕ) → IsCheckpointFile file → IsSound (checkpoint_in file)
sound_file file good = record {
  size = length-take-le 168 (drop 24 file) (omega (arith, length-drop 24 file, good.size));
  small = λ i. slots_small file i (λ k lt.
      let place : 24 + 1 * k ≡ 24 + k = omega arith in
      let same : get_or file (24 + 1 * k) 0 ≡ get_or file (24 + k) 0 = ap (λ j. get_or file j 0) place in
      omega (arith, same, (good.ranges.1.1.1.1.1.0 k lt).0));
  few_bad = omega (arith, good.ranges.1.1.1.1.0 0 (omega arith), (good.ranges.1.1.1.0 0 (omega arith)).0);
  standing = standing_is_whole file;
}

abbrev begun_at : Checkpoint → ℕ → BlockWords
begun_at c to_come =
    record { form = Raw; lead_in = to_come; gather = run_state gather_next [] (saved_slots c) }

pub brought_back : (c : Checkpoint) (time to_come bad : ℕ) (s : Then BlockWords Painting)
    → s.first ≡ begun_at c to_come → to_come ≡ c.to_come → s.second.left ≡ packs_until c time
    → s.second.bad ≡ bad
    → bad ≡ c.bad
    → s.second.screen ≡ c.standing → IsBroughtBack c time s
brought_back c time to_come bad s words t left b e stands =
    record { words = words ∙ ap (begun_at c) t; left = left; bad = b ∙ e; stands = stands }

module _ (c : Checkpoint) (time limit : ℕ) (left left' : Option (List ℕ)) (taken : List ℕ)
    (s s' : Then BlockWords Painting) (pumped : Pumped) (sound : IsSound c) (back : IsBroughtBack c time s)
    (fits : limit ≡ blocks_left c)
    (w : TracksBlocks limit words_drawn (feeding (from_to left left') (from_to s s')) (Ok pumped) taken) where
  blocks_are : c.program + (pumped.units - c.to_come) ≡ blocks_after c taken
  blocks_are =
      ap (λ n. c.program + (n - c.to_come))
      (sym (units_in Raw pumped.units taken (whole_taken Raw pumped.units taken w.done.1)))

  goes_by : (past : Bool) → nat_lt (c.program + (pumped.units - c.to_come)) time ≡ past
      → GoesOn (time_after c time) (from_to left left') s'.second.screen (if past
      then Err (PastEnd (c.program + (pumped.units - c.to_come)))
      else Ok (record { blocks = c.program + (pumped.units - c.to_come); bad = s'.second.bad })) taken
  goes_by true past = record {
    taken_from = w.taken_from;
    within = subst (λ n. length taken ≤ n * 96 + 1) fits w.within;
    done = tt;
    torn = λ block e. (cc);
    past_end = λ blocks e. let same : c.program + (pumped.units - c.to_come) ≡ blocks = cc in (
      w.done.0,
      sym same ∙ blocks_are,
      omega (arith, is_over (c.program + (pumped.units - c.to_come)) time past, same),
    );
  }
  goes_by false past = record {
    taken_from = w.taken_from;
    within = subst (λ n. length taken ≤ n * 96 + 1) fits w.within;
    done = (
      w.done.0,
      blocks_are,
      not_over (c.program + (pumped.units - c.to_come)) time past,
      gone_on c time pumped.units taken s s' sound back (omega (arith, w.done.2, fits)) w.done.1 w.done.3,
    );
    torn = λ block e. (cc);
    past_end = λ blocks e. (cc);
  }

  pub goes_on : (result : Result Resumed ResumeStop) (to_come program : ℕ) → to_come ≡ c.to_come
      → program ≡ c.program → result ≡ reached (program + (pumped.units - to_come)) time s'.second.bad
      → GoesOn (time_after c time) (from_to left left') s'.second.screen result taken
  goes_on result to_come program t p e =
      let blocks : program + (pumped.units - to_come) ≡ c.program + (pumped.units - c.to_come) =
      ap₂ (λ a b. a + (pumped.units - b)) p t in
      subst (λ (r : Result Resumed ResumeStop).
      GoesOn (time_after c time) (from_to left left') s'.second.screen r taken)
      (sym (e ∙ ap (λ n. reached n time s'.second.bad) blocks))
      (goes_by (nat_lt (c.program + (pumped.units - c.to_come)) time) refl)

-- ---- by the length of the input

by_length : (past : Bool) (c : Checkpoint) (time len units bad : ℕ)
    → nat_lt (c.program + (units - c.to_come)) time ≡ past → len ≤ blocks_left c * 96 → len % 96 ≡ 0
    → units ≡ len / 96
    → IsGoneOnBy (if past
    then Err (PastEnd (c.program + (units - c.to_come)))
    else Ok (record { blocks = c.program + (units - c.to_come); bad = bad })) c time len
by_length true c time len units bad past within whole e = (
  within,
  whole,
  ap (λ n. c.program + (n - c.to_come)) e,
  is_over (c.program + (units - c.to_come)) time past,
)
by_length false c time len units bad past within whole e = (
  within,
  whole,
  subst (λ n. time ≤ c.program + (n - c.to_come)) e (not_over (c.program + (units - c.to_come)) time past),
)

pub reached_by : (c : Checkpoint) (time limit bad to_come program : ℕ) (pumped : Pumped)
    (left : Option (List ℕ)) (result : Result Resumed ResumeStop) → limit ≡ blocks_left c
    → to_come ≡ c.to_come
    → program ≡ c.program
    → result ≡ reached (program + (pumped.units - to_come)) time bad
    → IfSome left (λ all. IsUnlessFault (Ok pumped) (answer_of 96 limit (length all)))
    → IfSome left (λ all. IsGoneOnBy result c time (length all))
reached_by c time limit bad to_come program pumped None result fits t p e h = tt
reached_by c time limit bad to_come program pumped (Some all) result fits t p e h =
    let (within, whole, units) =
    done_tests (nat_lt (limit * 96) (length all)) (length all % 96 == 0) (length all / 96) pumped h in
    let blocks : program + (pumped.units - to_come) ≡ c.program + (pumped.units - c.to_come) =
    ap₂ (λ a b. a + (pumped.units - b)) p t in
    subst (λ (r : Result Resumed ResumeStop). IsGoneOnBy r c time (length all))
    (sym (e ∙ ap (λ n. reached n time bad) blocks))
    (by_length (nat_lt (c.program + (pumped.units - c.to_come)) time) c time (length all) pumped.units bad
    refl (subst (λ n. length all ≤ n * 96) fits (not_over (limit * 96) (length all) within))
    (zero_rest (length all % 96) whole) units)

abbrev stop_result : PumpStop → Result Pumped PumpStop
stop_result stop = Err stop

pub torn_by : (c : Checkpoint) (time limit read unit : ℕ) (left : Option (List ℕ)) (stop : PumpStop)
    → stop ≡ pump_stop.Torn unit → limit ≡ blocks_left c → read ≡ c.lead_in + c.program
    → IfSome left (λ all. IsUnlessFault (stop_result stop) (answer_of 96 limit (length all)))
    → IfSome left (λ all. IsGoneOnBy (Err (Torn (read + unit))) c time (length all))
torn_by c time limit read unit None stop is fits e h = tt
torn_by c time limit read unit (Some all) stop is fits e h =
    let (within, whole, units) =
    torn_tests (nat_lt (limit * 96) (length all)) (length all % 96 == 0) (length all / 96) unit
    (subst (λ (st : PumpStop). IsUnlessFault (stop_result st) (answer_of 96 limit (length all))) is h) in (
      subst (λ n. length all ≤ n * 96) fits (not_over (limit * 96) (length all) within),
      some_rest (length all % 96) whole,
      ap₂ (λ a b. a + b) e units,
    )
