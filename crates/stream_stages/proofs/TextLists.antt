-- From a stage that reads the packs of the lead-in to the listing of a call.
use Rattle.std.proofs.Common.{◌≡◌, ◌≢◌, ℕ, ◌-◌, ◌*◌, ◌/◌, ◌%◌, ◌≤◌, List, length, map, take, refl, sym, ap, ◌∙◌, subst, Some, None, IfSome, Result, Ok, Err, IsOk}
use Rattle.std.specs.Prelude.{nat_lt, ◌==◌}
use Rattle.std.specs.declared.option.Option.{Option}
use Rattle.std.proofs.Math.Nat.{mul-mod_left}
use Rattle.cdg_io.specs.Change.{from_to}
use Rattle.cdg_io.specs.Run.{run_state}
use Rattle.cdg_io.specs.Pump.{units_of, answer_of, IsUnlessFault}
use Rattle.cdg_io.specs.declared.pumping.Pumped.{Pumped}
use Rattle.cdg_io.specs.declared.pumping.PumpStop.{PumpStop}
use Rattle.cdg_io.specs.declared.pumping.PumpStop.TheVariants as pump_stop
use Rattle.cdg_io.proofs.Frames.{feeding, passing}
use Rattle.raw_subcode.specs.Channels.{unit_size, block_of, blocks_of}
use Rattle.raw_subcode.specs.declared.form.Form.{Form}
use Rattle.cdtext_packs.specs.LeadIn.{lead_in_packs}
use Rattle.cdtext_packs.specs.Reading.{read_texts}
use Rattle.cdtext_packs.specs.Texts.{Texts}
use Rattle.cdtext_packs.specs.declared.kinds.TextFault.{TextFault}
use Rattle.cdtext_packs.specs.TextLines.{counted_lines, text_lines}
use Rattle.cdtext_packs.specs.TextSteps.{fresh_texts, text_next, HasRead}
use Rattle.cdtext_packs.specs.declared.lead_in_texts.LeadInTexts.{LeadInTexts}
use Rattle.raw_subcode.specs.Sizes.{most_units}
use Rattle.stream_stages.specs.Calls.{IsAnsweredBy}
use Rattle.stream_stages.specs.Watch.{Watches, WritesTexts, play_stop}
use Rattle.stream_stages.specs.TextListing.{packs_in, texts_of_lead_in, IsTextListed, IsTextFault, ListsTexts, IsWholeInput, IsListedBy}
use Rattle.stream_stages.specs.declared.played.Played.{Played}
use Rattle.stream_stages.specs.declared.played.PlayStop.{PlayStop}
use Rattle.stream_stages.specs.declared.played.PlayStop.TheVariants.{ReadFault, WriteFault, Torn, TooLong, PastEnd, Text}
use Rattle.stream_stages.proofs.Playing.{units_in}
use Rattle.stream_stages.proofs.Views.{whole_taken, done_tests, not_over, zero_rest}
use Rattle.stream_stages.proofs.Restoring.{taken_all}
use Rattle.stream_stages.proofs.Checks.{at_end_stop, checked_stop}

abbrev pub ReadsLeadIns : Type 0
ReadsLeadIns = (lead_in : ℕ) (blocks : List (List ℕ)) → lead_in ≤ 450000
    → HasRead (lead_in_packs (take lead_in blocks)) (run_state text_next (fresh_texts lead_in) blocks)

counted_same : (texts : Texts) (good bad other good' bad' other' : ℕ) → good ≡ good' → bad ≡ bad'
    → other ≡ other'
    → counted_lines texts good bad other ≡ counted_lines texts good' bad' other'
counted_same texts good bad other good' bad' other' e f g =
    ap (λ (n : ℕ). counted_lines texts n bad other) e
    ∙ ap (λ (n : ℕ). counted_lines texts good' n other) f
    ∙ ap (λ (n : ℕ). counted_lines texts good' bad' n) g

module _ (form : Form) (lead_in : ℕ) (left left' held held' : Option (List ℕ)) (s s' : LeadInTexts)
    (taken : List ℕ) where
  -- the lead-in of the consumed bytes is read
  has_read : (pumped : Pumped) → ReadsLeadIns → lead_in ≤ 450000 → s ≡ fresh_texts lead_in
      → Watches form text_next (feeding (from_to left left') (from_to s s')) (Ok pumped) taken
      → HasRead (packs_in form lead_in taken) s'
  has_read pumped law few fresh w =
      let units = units_of (unit_size form) pumped.units taken in
      let same : units_of (unit_size form) (length taken / unit_size form) taken
      ≡ units_of (unit_size form) pumped.units taken
      =
      ap (λ (n : ℕ). units_of (unit_size form) n taken)
      (units_in form pumped.units taken (whole_taken form pumped.units taken w.done.1)) in
      let blocks : blocks_of form taken ≡ map (block_of form) (units_of (unit_size form) pumped.units taken) =
      ap (λ (us : List (List ℕ)). map (block_of form) us) same in
      let run : s'
      ≡ run_state text_next (fresh_texts lead_in)
      (map (block_of form) (units_of (unit_size form) pumped.units taken))
      =
      w.done.3
      ∙ ap (λ (t : LeadInTexts).
      run_state text_next t (map (block_of form) (units_of (unit_size form) pumped.units taken))) fresh in
      subst (λ (t : LeadInTexts). HasRead (packs_in form lead_in taken) t) (sym run)
      (subst (λ (bs : List (List ℕ)). HasRead (lead_in_packs (take lead_in bs)) (run_state text_next
      (fresh_texts lead_in) (map (block_of form) (units_of (unit_size form) pumped.units taken))))
      (sym blocks)
      (law lead_in (map (block_of form) (units_of (unit_size form) pumped.units taken)) few))

  texts_read : HasRead (packs_in form lead_in taken) s'
      → read_texts s'.reader ≡ texts_of_lead_in form lead_in taken
  texts_read read = ap read_texts read.kept

  lines_read : (texts : Texts) → HasRead (packs_in form lead_in taken) s'
      → counted_lines texts s'.good s'.bad s'.other ≡ text_lines texts (packs_in form lead_in taken)
  lines_read texts read =
      counted_same texts s'.good s'.bad s'.other _ _ _ read.good read.bad read.other

  listed : (texts : Texts) (bad : ℕ) → HasRead (packs_in form lead_in taken) s'
      → read_texts s'.reader ≡ Ok texts → bad ≡ 0
      → IsTextListed form lead_in taken (counted_lines texts s'.good s'.bad s'.other) bad
  listed texts bad read is none = record {
    texts = texts;
    read = sym (texts_read read) ∙ is;
    text_is = lines_read texts read;
    none_bad = none;
  }

  whole_rest : (pumped : Pumped)
      → Watches form text_next (feeding (from_to left left') (from_to s s')) (Ok pumped) taken
      → length taken % unit_size form ≡ 0
  whole_rest pumped w = ap (λ n. n % unit_size form) w.done.1 ∙ mul-mod_left pumped.units (unit_size form)

  pub lists_done : (pumped : Pumped) (answer : Result Played PlayStop) (blocks : ℕ) → ReadsLeadIns
      → lead_in ≤ 450000 → s ≡ fresh_texts lead_in
      → Watches form text_next (feeding (from_to left left') (from_to s s')) (Ok pumped) taken
      → blocks ≡ pumped.units - lead_in → WritesTexts s' blocks held held' answer
      → ListsTexts form lead_in (passing (from_to left left') (from_to held held')) answer taken
  lists_done pumped (Ok played) blocks law few fresh w is writes =
      let read = has_read pumped law few fresh w in
      let (texts, is_read, put) = writes.2 in
      let all_blocks : played.blocks ≡ length taken / unit_size form - lead_in =
      writes.0
      ∙ is
      ∙ ap (λ n. n - lead_in)
      (sym (units_in form pumped.units taken (whole_taken form pumped.units taken w.done.1))) in
      record {
        plays = record {
          taken_from = w.taken_from;
          within = w.within;
          done = (
            w.done.0,
            (
              counted_lines texts s'.good s'.bad s'.other,
              record { blocks = all_blocks; written = listed texts played.bad read is_read writes.1 },
              put,
            ),
          );
          stopped = λ stop e not. (cc);
          ended = λ stop e not. (cc);
          cut = λ e. (cc);
        };
        refused = λ fault e. (cc);
      }
  lists_done pumped (Err WriteFault) blocks law few fresh w is writes =
      let read = has_read pumped law few fresh w in
      let (texts, is_read, put) = writes in
      let played : Played = record { blocks = pumped.units - lead_in; bad = 0 } in
      let all_blocks : pumped.units - lead_in ≡ length taken / unit_size form - lead_in =
      ap (λ n. n - lead_in)
      (sym (units_in form pumped.units taken (whole_taken form pumped.units taken w.done.1))) in
      record {
        plays = record {
          taken_from = w.taken_from;
          within = w.within;
          done = tt;
          stopped = λ stop e not. let same : WriteFault ≡ stop = cc in absurd (not (sym same));
          ended = λ stop e not. w.done.0;
          cut = λ e. (
            w.done.0,
            (
              counted_lines texts s'.good s'.bad s'.other,
              (played, record { blocks = all_blocks; written = listed texts 0 read is_read refl }),
              put,
            ),
          );
        };
        refused = λ fault e. (cc);
      }
  lists_done pumped (Err (Text fault)) blocks law few fresh w is writes =
      let read = has_read pumped law few fresh w in
      record {
        plays = record {
          taken_from = w.taken_from;
          within = w.within;
          done = tt;
          stopped = λ stop e not. writes.1;
          ended = λ stop e not. w.done.0;
          cut = λ e. (cc);
        };
        refused = λ other e.
            let same : fault ≡ other = cc in (
              whole_rest pumped w,
              subst (λ (f : TextFault). IsTextFault f (texts_of_lead_in form lead_in taken)) same
                  (subst (λ (r : Result Texts TextFault). IsTextFault fault r) (texts_read read) writes.0),
            );
      }
  lists_done pumped (Err ReadFault) blocks law few fresh w is writes = absurd writes
  lists_done pumped (Err (Torn block)) blocks law few fresh w is writes = absurd writes
  lists_done pumped (Err TooLong) blocks law few fresh w is writes = absurd writes
  lists_done pumped (Err (PastEnd past)) blocks law few fresh w is writes = absurd writes

never_texts : (stop : PumpStop) (fault : TextFault) → play_stop stop ≢ Text fault
never_texts pump_stop.ReadFault fault = λ e. (cc)
never_texts pump_stop.WriteFault fault = λ e. (cc)
never_texts (pump_stop.Torn unit) fault = λ e. (cc)
never_texts pump_stop.TooLong fault = λ e. (cc)

-- the reading stopped
pub lists_stop : (form : Form) (lead_in : ℕ) (left left' held : Option (List ℕ)) (s s' : LeadInTexts)
    (taken : List ℕ) (stop : PumpStop) (answer : PlayStop)
    → Watches form text_next (feeding (from_to left left') (from_to s s')) (Err stop) taken
    → answer ≡ play_stop stop
    → ListsTexts form lead_in (passing (from_to left left') (from_to held held)) (Err answer) taken
lists_stop form lead_in left left' held s s' taken stop answer w is = record {
  plays =
      at_end_stop (IsTextListed form lead_in) form lead_in text_next left left' held held s s' taken stop
      answer refl w is;
  refused = λ fault e. let same : answer ≡ Text fault = cc in absurd (never_texts stop fault (sym is ∙ same));
}

listed_at : (form : Form) (lead_in : ℕ) (stop : PumpStop) (all : List ℕ)
    → IsAnsweredBy (Err (play_stop stop)) (unit_size form) (length all)
    → IsListedBy (Err (play_stop stop)) form lead_in all
listed_at form lead_in pump_stop.ReadFault all answered = answered
listed_at form lead_in pump_stop.WriteFault all answered = answered
listed_at form lead_in (pump_stop.Torn unit) all answered = answered
listed_at form lead_in pump_stop.TooLong all answered = answered

pub listed_stop : (form : Form) (lead_in : ℕ) (stop : PumpStop) (answer : PlayStop) (left : Option (List ℕ))
    → answer ≡ play_stop stop
    → IfSome left (λ all. IsUnlessFault (Err stop) (answer_of (unit_size form) most_units (length all)))
    → IfSome left (λ all. IsListedBy (Err answer) form lead_in all)
listed_stop form lead_in stop answer None is reported = tt
listed_stop form lead_in stop answer (Some all) is reported =
    subst (λ (a : PlayStop). IsListedBy (Err a) form lead_in all) (sym is) (listed_at form lead_in stop all
    (checked_stop (unit_size form) stop (play_stop stop) (Some all) refl reported))

whole_input : (form : Form) (pumped : Pumped) (all : List ℕ)
    → IsUnlessFault (Ok pumped) (answer_of (unit_size form) most_units (length all))
    → IsWholeInput form all
whole_input form pumped all e =
    let (within, whole, units) =
    done_tests (nat_lt (most_units * unit_size form) (length all)) (length all % unit_size form == 0)
    (length all / unit_size form) pumped e in (
      not_over (most_units * unit_size form) (length all) within,
      zero_rest (length all % unit_size form) whole,
    )

is_ok_read : (r : Result Texts TextFault) (texts : Texts) → r ≡ Ok texts → IsOk r
is_ok_read (Ok other) texts e = refl
is_ok_read (Err fault) texts e = absurd (cc)

pub listed_done : (form : Form) (lead_in : ℕ) (pumped : Pumped) (answer : Result Played PlayStop)
    (left left' held held' : Option (List ℕ)) (s s' : LeadInTexts) (taken : List ℕ) (blocks : ℕ)
    → Watches form text_next (feeding (from_to left left') (from_to s s')) (Ok pumped) taken
    → WritesTexts s' blocks held held' answer
    → ListsTexts form lead_in (passing (from_to left left') (from_to held held')) answer taken
    → IfSome left (λ all. IsUnlessFault (Ok pumped) (answer_of (unit_size form) most_units (length all)))
    → IfSome left (λ all. IsListedBy answer form lead_in all)
listed_done form lead_in pumped answer None left' held held' s s' taken blocks w writes lists e = tt
listed_done form lead_in pumped (Ok played) (Some all) left' held held' s s' taken blocks w writes lists e =
    let same : taken ≡ all = taken_all all left' taken w.taken_from w.done.0 in
    let (end, (text, is_played, put)) = lists.plays.done in (
      whole_input form pumped all e,
      subst (λ (bytes : List ℕ). IsOk (texts_of_lead_in form lead_in bytes)) same
          (is_ok_read (texts_of_lead_in form lead_in taken) is_played.written.texts is_played.written.read),
    )
listed_done form lead_in pumped (Err (Text fault)) (Some all) left' held held' s s' taken blocks w writes
    lists e =
    let same : taken ≡ all = taken_all all left' taken w.taken_from w.done.0 in (
      whole_input form pumped all e,
      subst (λ (bytes : List ℕ). IsTextFault fault (texts_of_lead_in form lead_in bytes)) same
          (lists.refused fault refl).1,
    )
listed_done form lead_in pumped (Err WriteFault) (Some all) left' held held' s s' taken blocks w writes lists
    e =
    tt
listed_done form lead_in pumped (Err ReadFault) (Some all) left' held held' s s' taken blocks w writes lists
    e =
    absurd writes
listed_done form lead_in pumped (Err (Torn block)) (Some all) left' held held' s s' taken blocks w writes
    lists e =
    absurd writes
listed_done form lead_in pumped (Err TooLong) (Some all) left' held held' s s' taken blocks w writes lists e =
    absurd writes
listed_done form lead_in pumped (Err (PastEnd past)) (Some all) left' held held' s s' taken blocks w writes
    lists e =
    absurd writes
