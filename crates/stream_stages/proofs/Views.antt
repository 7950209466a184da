-- From a run of a stage over blocks to the output of a call.
use Rattle.std.proofs.Common.{◌≡◌, ◌≢◌, ℕ, ◌+◌, ◌-◌, ◌*◌, ◌/◌, ◌%◌, ◌^◌, ◌<◌, ◌≤◌, Bool, true, false, ◌==◌, if◌then◌else◌, Some, None, IfSome, List, [], length, map, take, drop, refl, sym, ap, ap₂, ◌∙◌, subst, arith, length-drop, Result, Ok, Err}
use Rattle.std.specs.declared.option.Option.{Option}
use Rattle.std.specs.Prelude.{nat_lt}
use Rattle.std.specs.List.{flat_map}
use Rattle.std.specs.Io.KnownBytes.{Appends}
use Rattle.std.proofs.KnownBytes.{Appends-nil}
use Rattle.std.proofs.lemmas.Bool.Decides.{nat_tests}
use Rattle.std.proofs.lemmas.List.{length-map}
use Rattle.cdg_io.specs.Change.{from_to}
use Rattle.cdg_io.specs.Moves.{AppendsPrefix}
use Rattle.cdg_io.specs.Run.{run_state, run_gives}
use Rattle.cdg_io.specs.Pump.{units_of, answer_of, IsUnlessFault}
use Rattle.std.proofs.Math.Nat.{mul-mod_left}
use Rattle.cdg_io.specs.declared.pumping.Pumped.{Pumped}
use Rattle.cdg_io.specs.declared.pumping.PumpStop.{PumpStop}
use Rattle.cdg_io.specs.declared.pumping.PumpStop.TheVariants as pump_stop
use Rattle.cdg_io.specs.declared.stage.Then.{Then}
use Rattle.cdg_io.proofs.Frames.{feeding, passing}
use Rattle.cdg_io.proofs.Runs.{then_next, then_next_second}
use Rattle.cdg_io.proofs.Streaming.{IsWhole}
use Rattle.rw_code.specs.Finding.{finding}
use Rattle.rw_interleave.specs.Interleave.{whole_packs}
use Rattle.raw_subcode.specs.Channels.{unit_size, block_of, symbols_of, program_symbols}
use Rattle.raw_subcode.specs.declared.form.Form.{Form}
use Rattle.rw_interleave.specs.Stream.{IsRecovered, bad_count}
use Rattle.cdg_screen.specs.Standing.{IsWholeStanding, Standing, blank, standing_after}
use Rattle.cdg_screen.proofs.Turns.{blank_is_whole}
use Rattle.raw_subcode.specs.Sizes.{most_units}
use Rattle.stream_stages.specs.Calls.{IsEarly}
use Rattle.stream_stages.specs.Steps.{fresh_words, slots_of, window_next, window_gives, words_next, words_give}
use Rattle.stream_stages.specs.Drawn.{draw_after, painting_next}
use Rattle.stream_stages.specs.Watch.{IsViewed, Views, Watches, play_stop, viewed}
use Rattle.stream_stages.specs.Screen.{IsShownBy, IsWrittenAt, Shows, moment}
use Rattle.stream_stages.specs.declared.block_words.BlockWords.{BlockWords}
use Rattle.stream_stages.specs.declared.painting.Painting.{Painting}
use Rattle.stream_stages.specs.declared.played.Played.{Played}
use Rattle.stream_stages.specs.declared.played.PlayStop.{PlayStop}
use Rattle.stream_stages.specs.declared.played.PlayStop.TheVariants.{ReadFault, WriteFault, TooLong, PastEnd}
use Rattle.stream_stages.proofs.Slots.{Sized, sized_drop, length-all_slots}
use Rattle.stream_stages.proofs.FormWords.{words_from, found_in, recovered}
use Rattle.stream_stages.proofs.PlayRuns.{block_words, gives_few}
use Rattle.stream_stages.proofs.Conversion.{program, units_sized, blocks_sized, length-units_of}
use Rattle.stream_stages.proofs.Playing.{units_in, unit_some}
use Rattle.stream_stages.proofs.Draws.{instrs_of, are_meant, are_drawn, painting_runs}

abbrev pub Paintings : Type 0
Paintings = Then BlockWords Painting

abbrev pub paintings_next : Paintings → List ℕ → Paintings
paintings_next s x = then_next words_next words_give painting_next s x

-- the state before the first block
pub record IsReady (form : Form) (lead_in time : ℕ) (s : Paintings) : Type 0 where
  pub words : s.first ≡ fresh_words form lead_in
  pub left : s.second.left ≡ whole_packs time
  pub bad : s.second.bad ≡ 0
  pub blank : s.second.screen ≡ blank

pub few_words : (form : Form) (lead_in : ℕ) (blocks : List (List ℕ)) → length blocks ≤ 1000000
    → 0 + length (words_from form (flat_map slots_of (drop lead_in blocks))) < 2 ^ 32
few_words form lead_in blocks few =
    omega (
      arith,
      few,
      gives_few (window_next form) (window_gives form) [] (flat_map slots_of (drop lead_in blocks)),
      length-all_slots (drop lead_in blocks),
      length-drop lead_in blocks,
    )

-- the standing after the blocks, and the number of bad words
pub record IsDrawn (form : Form) (lead_in time : ℕ) (blocks : List (List ℕ)) (end : Painting) : Type 0 where
  pub stands : end.screen
      ≡ standing_after blank (instrs_of (take (whole_packs time) (found_in form (drop lead_in blocks))))
  pub counted : end.bad ≡ bad_count (take (whole_packs time) (found_in form (drop lead_in blocks)))

pub drawn_blocks : (form : Form) (lead_in time : ℕ) (s : Paintings) (blocks : List (List ℕ))
    → IsReady form lead_in time s → length blocks ≤ 1000000
    → IsDrawn form lead_in time blocks (run_state paintings_next s blocks).second
drawn_blocks form lead_in time s blocks ready few =
    let words : List (List ℕ) = words_from form (flat_map slots_of (drop lead_in blocks)) in
    let start : s.second ≡ record { screen = s.second.screen; left = whole_packs time; bad = 0 } =
    ap₂ (λ l b. record { screen = s.second.screen; left = l; bad = b }) ready.left ready.bad in
    let run : (run_state paintings_next s blocks).second
    ≡ draw_after (record { screen = s.second.screen; left = whole_packs time; bad = 0 }) words =
    then_next_second words_next words_give painting_next s blocks
    ∙ painting_runs s.second (run_gives words_next words_give s.first blocks)
    ∙ ap₂ draw_after start (block_words form lead_in s.first blocks ready.words) in
    let drawn =
    are_drawn s.second.screen (whole_packs time) 0 words
    (subst IsWholeStanding (sym ready.blank) blank_is_whole) (few_words form lead_in blocks few) in
    subst (IsDrawn form lead_in time blocks) (sym run) (record {
      stands =
          drawn.stands
          ∙ ap
          (λ (now : Standing). standing_after now (instrs_of (take (whole_packs time) (map finding words))))
          ready.blank;
      counted = drawn.counted ∙ omega arith;
    })

pub recovered_units : (form : Form) (lead_in : ℕ) (bytes : List ℕ) (units : List (List ℕ))
    → units_of (unit_size form) (length bytes / unit_size form) bytes ≡ units → Sized (unit_size form) units
    → IsRecovered form (program_symbols form bytes lead_in) (found_in form (program form lead_in units))
recovered_units form lead_in bytes units same sized =
    subst (λ (us : List (List ℕ)). IsRecovered form (flat_map symbols_of (program form lead_in us))
    (found_in form (program form lead_in units))) (sym same)
    (recovered form (program form lead_in units) (sized_drop 96 lead_in _ (blocks_sized form units sized)))

-- the same, from the bytes
pub viewed_bytes : (form : Form) (lead_in time : ℕ) (s : Paintings) (bytes : List ℕ) (n : ℕ) (end : Painting)
    → IsReady form lead_in time s → n ≤ most_units → IsWhole (unit_size form) n bytes
    → end ≡ (run_state paintings_next s (map (block_of form) (units_of (unit_size form) n bytes))).second
    → IsViewed (moment form lead_in time) bytes end.screen end.bad
viewed_bytes form lead_in time s bytes n end ready few whole_units e =
    let size : ℕ = unit_size form in
    let units : List (List ℕ) = units_of size n bytes in
    let drawn : IsDrawn form lead_in time (map (block_of form) units) end =
    subst (IsDrawn form lead_in time (map (block_of form) units)) (sym e)
    (drawn_blocks form lead_in time s (map (block_of form) units) ready
    (omega (arith, few, length-map units (block_of form), length-units_of size n bytes))) in
    record {
      found = found_in form (program form lead_in units);
      recovered =
          recovered_units form lead_in bytes units
          (ap (λ k. units_of size k bytes) (units_in form n bytes whole_units))
          (units_sized size n bytes whole_units.fits);
      instrs = instrs_of (take (whole_packs time) (found_in form (program form lead_in units)));
      shown = are_meant (take (whole_packs time) (found_in form (program form lead_in units)));
      stands = drawn.stands;
      bad_is = drawn.counted;
    }

-- ---- the answers

pub whole_taken : (form : Form) (n : ℕ) (bytes : List ℕ) → length bytes ≡ n * unit_size form
    → IsWhole (unit_size form) n bytes
whole_taken form n bytes e = record { fits = omega (arith, e); rest = omega (arith, e, unit_some form) }

module _ (form : Form) (lead_in time : ℕ) (left left' : Option (List ℕ)) (taken : List ℕ) where
  views_by : (s s' : Paintings) (pumped : Pumped) (past : Bool) → IsReady form lead_in time s
      → Watches form paintings_next (feeding (from_to left left') (from_to s s')) (Ok pumped) taken
      → nat_lt (pumped.units - lead_in) time ≡ past
      → Views (moment form lead_in time) (from_to left left') s'.second.screen (if past
      then Err (PastEnd (pumped.units - lead_in))
      else Ok (record { blocks = pumped.units - lead_in; bad = s'.second.bad })) taken
  views_by s s' pumped true ready w past =
      let units : length taken / unit_size form ≡ pumped.units =
      units_in form pumped.units taken (whole_taken form pumped.units taken w.done.1) in
      let rest : length taken % unit_size form ≡ 0 =
      ap (λ n. n % unit_size form) w.done.1 ∙ mul-mod_left pumped.units (unit_size form) in
      let early : pumped.units - lead_in < time = grind (arith, nat_tests) in
      record {
        taken_from = w.taken_from;
        within = w.within;
        done = tt;
        ended = λ stop e not. w.done.0;
        past_end = λ blocks e. let same : pumped.units - lead_in ≡ blocks = cc in
            (rest, sym same ∙ ap (λ n. n - lead_in) (sym units), omega (arith, early, same));
        no_write = λ e. (cc);
      }
  views_by s s' pumped false ready w past =
      let whole_units = whole_taken form pumped.units taken w.done.1 in
      let reached : time ≤ pumped.units - lead_in = grind (arith, nat_tests) in
      record {
        taken_from = w.taken_from;
        within = w.within;
        done = (
          w.done.0,
          ap (λ n. n - lead_in) (sym (units_in form pumped.units taken whole_units)),
          reached,
          viewed_bytes form lead_in time s taken pumped.units s'.second ready w.done.2 whole_units
              (ap (λ (t : Paintings). t.second) w.done.3),
        );
        ended = λ stop e not. (cc);
        past_end = λ blocks e. (cc);
        no_write = λ e. (cc);
      }

  views_done : (s s' : Paintings) (pumped : Pumped) → IsReady form lead_in time s
      → Watches form paintings_next (feeding (from_to left left') (from_to s s')) (Ok pumped) taken
      → Views (moment form lead_in time) (from_to left left') s'.second.screen
      (viewed (pumped.units - lead_in) time s'.second.bad) taken
  views_done s s' pumped ready w = views_by s s' pumped (nat_lt (pumped.units - lead_in) time) ready w refl

  views_stop : (s s' : Paintings) (now : Standing) (stop : PumpStop)
      → Watches form paintings_next (feeding (from_to left left') (from_to s s')) (Err stop) taken
      → Views (moment form lead_in time) (from_to left left') now (Err (play_stop stop)) taken
  views_stop s s' now pump_stop.ReadFault w = record {
    taken_from = w.taken_from;
    within = w.within;
    done = tt;
    ended = λ stop e not. let same : ReadFault ≡ stop = cc in absurd (not (subst IsEarly same refl));
    past_end = λ blocks e. (cc);
    no_write = λ e. (cc);
  }
  views_stop s s' now pump_stop.WriteFault w = absurd (w.no_write refl)
  views_stop s s' now (pump_stop.Torn unit) w = record {
    taken_from = w.taken_from;
    within = w.within;
    done = tt;
    ended = λ stop e not. w.torn unit refl;
    past_end = λ blocks e. (cc);
    no_write = λ e. (cc);
  }
  views_stop s s' now pump_stop.TooLong w = record {
    taken_from = w.taken_from;
    within = w.within;
    done = tt;
    ended = λ stop e not. let same : TooLong ≡ stop = cc in absurd (not (subst IsEarly same refl));
    past_end = λ blocks e. (cc);
    no_write = λ e. (cc);
  }

  pub view_done : (s s' : Paintings) (pumped : Pumped) (answer : Result Played PlayStop)
      → IsReady form lead_in time s
      → Watches form paintings_next (feeding (from_to left left') (from_to s s')) (Ok pumped) taken
      → answer ≡ viewed (pumped.units - lead_in) time s'.second.bad
      → Views (moment form lead_in time) (from_to left left') s'.second.screen answer taken
  view_done s s' pumped answer ready w e =
      subst (λ (r : Result Played PlayStop).
      Views (moment form lead_in time) (from_to left left') s'.second.screen r taken) (sym e)
      (views_done s s' pumped ready w)

  pub view_stop : (s s' : Paintings) (now : Standing) (stop : PumpStop) (answer : PlayStop)
      → Watches form paintings_next (feeding (from_to left left') (from_to s s')) (Err stop) taken
      → answer ≡ play_stop stop
      → Views (moment form lead_in time) (from_to left left') now (Err answer) taken
  view_stop s s' now stop answer w e =
      subst (λ (a : PlayStop). Views (moment form lead_in time) (from_to left left') now (Err a) taken)
      (sym e) (views_stop s s' now stop w)

  module _ (write : Standing → List ℕ) (now : Standing) (held held' : Option (List ℕ)) where
    abbrev Calls : Result Played PlayStop → Type 0
    Calls result =
        Shows write (moment form lead_in time) (passing (from_to left left') (from_to held held')) result
        taken

    written : (bad : ℕ) (v : IsViewed (moment form lead_in time) taken now bad)
        → IsWrittenAt write (moment form lead_in time) taken (write (standing_after blank v.instrs)) bad
    written bad v = record {
      found = v.found;
      recovered = v.recovered;
      instrs = v.instrs;
      shown = v.shown;
      text_is = refl;
      bad_is = v.bad_is;
    }

    pub shows_done : (played : Played)
        → Views (moment form lead_in time) (from_to left left') now (Ok played) taken
        → Appends held held' (write now)
        → Calls (Ok played)
    shows_done played v put =
        let (at_end, blocks, reached, view) = v.done in
        record {
          plays = record {
            taken_from = v.taken_from;
            within = v.within;
            done = (
              at_end,
              (
                write (standing_after blank view.instrs),
                record { blocks = blocks; written = written played.bad view },
                subst (λ (shown : Standing). Appends held held' (write shown)) view.stands put,
              ),
            );
            stopped = λ stop e not. (cc);
            ended = λ stop e not. (cc);
            cut = λ e. (cc);
          };
          reached = reached;
          past_end = λ blocks e. (cc);
        }

    pub shows_cut : (played : Played)
        → Views (moment form lead_in time) (from_to left left') now (Ok played) taken
        → AppendsPrefix held held' (write now)
        → Calls (Err WriteFault)
    shows_cut played v put =
        let (at_end, blocks, reached, view) = v.done in
        record {
          plays = record {
            taken_from = v.taken_from;
            within = v.within;
            done = tt;
            stopped = λ stop e not. let same : WriteFault ≡ stop = cc in absurd (not (sym same));
            ended = λ stop e not. at_end;
            cut = λ e. (
              at_end,
              (
                write (standing_after blank view.instrs),
                (played, record { blocks = blocks; written = written played.bad view }),
                subst (λ (shown : Standing). AppendsPrefix held held' (write shown)) view.stands put,
              ),
            );
          };
          reached = tt;
          past_end = λ blocks e. (cc);
        }

    pub shows_stop : (stop : PlayStop)
        → Views (moment form lead_in time) (from_to left left') now (Err stop) taken → held' ≡ held
        → Calls (Err stop)
    shows_stop stop v same = record {
      plays = record {
        taken_from = v.taken_from;
        within = v.within;
        done = tt;
        stopped =
            λ other e not. subst (λ (h : Option (List ℕ)). Appends held h []) (sym same) (Appends-nil held);
        ended = v.ended;
        cut = λ e. absurd (v.no_write e);
      };
      reached = tt;
      past_end = v.past_end;
    }

-- ---- the answer by the length of the input

abbrev by_tests : Bool → Bool → ℕ → Result Pumped PumpStop
by_tests over whole n =
    if over
    then Err pump_stop.TooLong
    else if whole
    then Ok (record { units = n })
    else Err (pump_stop.Torn n)

abbrev done_result : Pumped → Result Pumped PumpStop
done_result pumped = Ok pumped

abbrev stop_result : PumpStop → Result Pumped PumpStop
stop_result stop = Err stop

pub done_tests : (over whole : Bool) (n : ℕ) (pumped : Pumped) → done_result pumped ≡ by_tests over whole n
    → (over ≡ false) × (whole ≡ true) × (pumped.units ≡ n)
done_tests true whole n pumped e = absurd (cc)
done_tests false true n pumped e = let same : pumped ≡ record { units = n } = cc in
    (refl, refl, ap (λ (p : Pumped). p.units) same)
done_tests false false n pumped e = absurd (cc)

pub torn_tests : (over whole : Bool) (n unit : ℕ) → stop_result (pump_stop.Torn unit) ≡ by_tests over whole n
    → (over ≡ false) × (whole ≡ false) × (unit ≡ n)
torn_tests true whole n unit e = absurd (cc)
torn_tests false true n unit e = absurd (cc)
torn_tests false false n unit e = (refl, refl, (cc))

pub long_tests : (over whole : Bool) (n : ℕ) → stop_result pump_stop.TooLong ≡ by_tests over whole n
    → over ≡ true
long_tests true whole n e = refl
long_tests false true n e = absurd (cc)
long_tests false false n e = absurd (cc)

pub not_over : (a b : ℕ) → nat_lt a b ≡ false → b ≤ a
not_over a b e = grind (arith, nat_tests)

pub is_over : (a b : ℕ) → nat_lt a b ≡ true → a < b
is_over a b e = grind (arith, nat_tests)

pub zero_rest : (n : ℕ) → (n == 0) ≡ true → n ≡ 0
zero_rest n e = grind (arith, nat_tests)

pub some_rest : (n : ℕ) → (n == 0) ≡ false → n ≢ 0
some_rest n e = grind (arith, nat_tests)

shown_by : (past : Bool) (lead_in time size len units bad : ℕ) → nat_lt (units - lead_in) time ≡ past
    → len ≤ most_units * size → len % size ≡ 0 → units ≡ len / size
    → IsShownBy
    (if past then Err (PastEnd (units - lead_in)) else Ok (record { blocks = units - lead_in; bad = bad }))
    lead_in time size len
shown_by true lead_in time size len units bad past within whole e =
    (within, whole, ap (λ n. n - lead_in) e, is_over (units - lead_in) time past)
shown_by false lead_in time size len units bad past within whole e =
    (within, whole, subst (λ n. time ≤ n - lead_in) e (not_over (units - lead_in) time past))

answer_done : (lead_in time size bad : ℕ) (pumped : Pumped) (left : Option (List ℕ))
    → IfSome left (λ all. IsUnlessFault (Ok pumped) (answer_of size most_units (length all)))
    → IfSome left (λ all. IsShownBy (viewed (pumped.units - lead_in) time bad) lead_in time size (length all))
answer_done lead_in time size bad pumped None e = tt
answer_done lead_in time size bad pumped (Some all) e =
    let (within, whole, units) =
    done_tests (nat_lt (most_units * size) (length all)) (length all % size == 0) (length all / size) pumped
    e in
    shown_by (nat_lt (pumped.units - lead_in) time) lead_in time size (length all) pumped.units bad refl
    (not_over (most_units * size) (length all) within) (zero_rest (length all % size) whole) units

answer_stop : (lead_in time size : ℕ) (stop : PumpStop) (left : Option (List ℕ))
    → IfSome left (λ all. IsUnlessFault (Err stop) (answer_of size most_units (length all)))
    → IfSome left (λ all. IsShownBy (Err (play_stop stop)) lead_in time size (length all))
answer_stop lead_in time size stop None e = tt
answer_stop lead_in time size pump_stop.ReadFault (Some all) e = tt
answer_stop lead_in time size pump_stop.WriteFault (Some all) e = tt
answer_stop lead_in time size (pump_stop.Torn unit) (Some all) e =
    let (within, whole, units) =
    torn_tests (nat_lt (most_units * size) (length all)) (length all % size == 0) (length all / size) unit
    e in
    (not_over (most_units * size) (length all) within, some_rest (length all % size) whole, units)
answer_stop lead_in time size pump_stop.TooLong (Some all) e =
    is_over (most_units * size) (length all)
    (long_tests (nat_lt (most_units * size) (length all)) (length all % size == 0) (length all / size) e)

pub shown_done : (lead_in time size bad : ℕ) (pumped : Pumped) (answer : Result Played PlayStop)
    (left : Option (List ℕ)) → answer ≡ viewed (pumped.units - lead_in) time bad
    → IfSome left (λ all. IsUnlessFault (Ok pumped) (answer_of size most_units (length all)))
    → IfSome left (λ all. IsShownBy answer lead_in time size (length all))
shown_done lead_in time size bad pumped answer left e h =
    subst (λ (r : Result Played PlayStop). IfSome left (λ all. IsShownBy r lead_in time size (length all)))
    (sym e) (answer_done lead_in time size bad pumped left h)

pub shown_stop : (lead_in time size : ℕ) (stop : PumpStop) (answer : PlayStop) (left : Option (List ℕ))
    → answer ≡ play_stop stop
    → IfSome left (λ all. IsUnlessFault (Err stop) (answer_of size most_units (length all)))
    → IfSome left (λ all. IsShownBy (Err answer) lead_in time size (length all))
shown_stop lead_in time size stop answer left e h =
    subst (λ (a : PlayStop). IfSome left (λ all. IsShownBy (Err a) lead_in time size (length all))) (sym e)
    (answer_stop lead_in time size stop left h)
