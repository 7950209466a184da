-- The state of a weaver, from the change of one picture to the next, and its packs.
use Rattle.std.proofs.Common.{◌≡◌, ◌≢◌, ℕ, suc, ◌+◌, ◌-◌, ◌*◌, ◌<◌, ◌≤◌, List, [], length, get_or, All, ap, refl, sym, subst, ◌∙◌, inl, inr, arith}
use Rattle.std.specs.Prelude.{Option, replicate, slice_index}
use Rattle.std.proofs.lemmas.Bool.{cases_lt}
use Rattle.std.proofs.lemmas.List.{nil_from_length}
use Rattle.std.proofs.lemmas.List.Elements.{All-get_or}
use Rattle.cdg_instructions.specs.Instruction.{InRange, IsKnown, IsWritten, message_of, written_symbols}
use Rattle.cdg_instructions.specs.declared.instr.Instr.{Instr}
use Rattle.cdg_instructions.specs.declared.instr.Instr.TheVariants.{Idle, Foreign, Unknown, MemoryPreset, BorderPreset, SetTile, XorTile, ScrollPreset, ScrollCopy, Transparency, ColoursLow, ColoursHigh}
use Rattle.picture_script.specs.Script.{Drawing, pictures, ready_time, hold_time}
use Rattle.pack_schedule.specs.Change.{IsStart}
use Rattle.rw_code.specs.Packs.{idle_pack}
use Rattle.pack_schedule.specs.Schedule.{start_of}
use Rattle.pack_schedule.specs.PlannedChange.{chosen_start, planned_from, planned_change}
use Rattle.pack_schedule.specs.Survey.{nothing_planned, IsSurvey}
use Rattle.pack_schedule.specs.Woven.{IsPackAt, most_counted}
use Rattle.picture_script.specs.Board.{StandsBefore}
use Rattle.pack_schedule.specs.Weaving.{IsWeaving}
use Rattle.pack_schedule.specs.declared.weaver.ChangeAtHand.{ChangeAtHand}
use Rattle.pack_schedule.specs.declared.surveys.PlannedChange.{PlannedChange}
use Rattle.pack_schedule.proofs.TimeOrder.{hold_order}

-- the chosen start of each picture is allowed
abbrev pub ChosenIsStart : Type 0
ChosenIsStart = (script : List Drawing) (k : ℕ) → IsStart k (chosen_start script k)

pub start_allowed : ChosenIsStart
    → (script : List Drawing) (survey : List PlannedChange) (k : ℕ) (preset : Option ℕ)
    → IsSurvey script survey
    → k < pictures script → preset ≡ (get_or survey k nothing_planned).preset
    → IsStart k preset
start_allowed chosen script survey k preset h lt is =
    subst (IsStart k) (sym (is ∙ (h.each k lt).preset_is)) (chosen script k)

pub change_planned : (script : List Drawing) (survey : List PlannedChange) (k : ℕ) (preset : Option ℕ)
    (change : List Instr) → IsSurvey script survey → k < pictures script
    → preset ≡ (get_or survey k nothing_planned).preset
    → change ≡ planned_from script k preset → change ≡ planned_change script k
unfolding planned_change
change_planned script survey k preset change h lt is made =
    made ∙ ap (planned_from script k) (is ∙ (h.each k lt).preset_is)

-- a planned change of no packs is empty
pub change_empty : (script : List Drawing) (survey : List PlannedChange) (k need : ℕ) (change : List Instr)
    → IsSurvey script survey → k < pictures script → need ≡ (get_or survey k nothing_planned).need → need ≡ 0
    → change ≡ [] → change ≡ planned_change script k
change_empty script survey k need change h lt is zero empty =
    empty ∙ sym (nil_from_length (planned_change script k) (sym (h.each k lt).need_is ∙ sym is ∙ zero))

-- the current change is the change of the first picture, if there is one
pub first_weaves : (script : List Drawing) (at_hand : ChangeAtHand) → IsSurvey script at_hand.survey
    → at_hand.k ≡ 0 → StandsBefore script 0 at_hand.before → StandsBefore script 0 at_hand.now
    → (0 < pictures script → (at_hand.change ≡ planned_change script 0) × (at_hand.start ≡ start_of script 0))
    → (at_hand.k ≡ pictures script → at_hand.start ≡ most_counted)
    → IsWeaving script at_hand 0
first_weaves script at_hand surveyed k before now planned last =
    let none : 0 ≡ at_hand.k = sym k in
    record {
      surveyed = surveyed;
      k_most = omega (arith, k);
      change_is =
          λ lt.
          subst (λ (n : ℕ). at_hand.change ≡ planned_change script n) none (planned (omega (arith, lt))).0;
      start_is =
          λ lt. subst (λ (n : ℕ). at_hand.start ≡ start_of script n) none (planned (omega (arith, lt))).1;
      before_stands = subst (λ (n : ℕ). StandsBefore script n at_hand.before) none before;
      now_stands = subst (λ (n : ℕ). StandsBefore script n at_hand.now) none now;
      no_start = last;
      sent = λ j lt. absurd (omega (arith, k, lt));
    }

-- the current change is the change of the next picture, if there is one
pub next_weaves : (script : List Drawing) (old new : ChangeAtHand) (given : ℕ) → IsWeaving script old given
    → old.k < pictures script → start_of script old.k + length (planned_change script old.k) ≤ given
    → new.survey ≡ old.survey → new.k ≡ old.k + 1 → StandsBefore script (old.k + 1) new.before
    → StandsBefore script (old.k + 1) new.now
    → (old.k + 1 < pictures script
    → (new.change ≡ planned_change script (old.k + 1)) × (new.start ≡ start_of script (old.k + 1)))
    → (new.k ≡ pictures script → new.start ≡ most_counted)
    → IsWeaving script new given
next_weaves script old new given w inside done survey k before now planned last =
    let next : old.k + 1 ≡ new.k = sym k in
    record {
      surveyed = subst (IsSurvey script) (sym survey) w.surveyed;
      k_most = omega (arith, k, inside);
      change_is =
          λ lt. subst (λ (n : ℕ). new.change ≡ planned_change script n) next (planned (omega (arith, lt))).0;
      start_is = λ lt. subst (λ (n : ℕ). new.start ≡ start_of script n) next (planned (omega (arith, lt))).1;
      before_stands = subst (λ (n : ℕ). StandsBefore script n new.before) next before;
      now_stands = subst (λ (n : ℕ). StandsBefore script n new.now) next now;
      no_start = last;
      sent = λ j lt. elim (cases_lt j old.k) [
        | inl earlier ↦ w.sent j earlier
        | inr past ↦
            let here : old.k ≡ j = omega (arith, k, lt, past) in
            subst (λ (n : ℕ). start_of script n + length (planned_change script n) ≤ given) here done
      ];
    }

-- changes do not overlap
starts_apart : (script : List Drawing) (survey : List PlannedChange) → IsSurvey script survey
    → ((k : ℕ) → k < pictures script → ready_time script k ≤ hold_time script k)
    → ((k : ℕ) → k + 1 < pictures script → hold_time script k < ready_time script (k + 1))
    → (k n : ℕ) → k + suc n < pictures script
    → start_of script k + length (planned_change script k) ≤ start_of script (k + suc n)
starts_apart script survey h held later k n lt =
    let planned = h.each k (omega arith) in
    let in_time = planned.in_time in
    let rise =
    hold_order script (record { held = held; later = later }) k (k + n) (omega arith) (omega (arith, lt)) in
    let next : k + suc n ≡ suc (k + n) = omega arith in
    let start : start_of script (k + suc n) ≡ 4 * hold_time script (k + n) - 7 = ap (start_of script) next in
    omega (arith, in_time, planned.need_is, rise, start, held k (omega arith))

-- neither the current change nor a later one begins before the start of the current one
pub begins_first : (script : List Drawing) (at_hand : ChangeAtHand) (given : ℕ)
    → IsWeaving script at_hand given
    → ((k : ℕ) → k < pictures script → ready_time script k ≤ hold_time script k)
    → ((k : ℕ) → k + 1 < pictures script → hold_time script k < ready_time script (k + 1))
    → (j : ℕ) → at_hand.k ≤ j → j < pictures script → at_hand.start ≤ start_of script j
begins_first script at_hand given h held later j le lt = elim (cases_lt at_hand.k j) [
  | inl after ↦
      let apart : at_hand.k + suc (j - at_hand.k - 1) ≡ j = omega arith in
      let far =
      starts_apart script at_hand.survey h.surveyed held later at_hand.k (j - at_hand.k - 1) (omega arith) in
      let same = ap (start_of script) apart in
      omega (arith, far, same, h.start_is (omega arith))
  | inr not_after ↦
      let here : at_hand.k ≡ j = omega arith in
      let same = ap (start_of script) here in
      omega (arith, same, h.start_is (omega arith))
]

only_here : (script : List Drawing) (at_hand : ChangeAtHand) (given : ℕ) → IsWeaving script at_hand given
    → ((k : ℕ) → k < pictures script → ready_time script k ≤ hold_time script k)
    → ((k : ℕ) → k + 1 < pictures script → hold_time script k < ready_time script (k + 1))
    → (at_hand.k < pictures script
    → given < start_of script at_hand.k + length (planned_change script at_hand.k))
    → (j : ℕ) → j < pictures script → start_of script j ≤ given
    → given < start_of script j + length (planned_change script j)
    → j ≡ at_hand.k
only_here script at_hand given h held later current j lt from to = elim (cases_lt j at_hand.k) [
  | inl before ↦ absurd (omega (arith, h.sent j before, to))
  | inr not_before ↦ elim (cases_lt at_hand.k j) [
    | inl after ↦
        let apart : at_hand.k + suc (j - at_hand.k - 1) ≡ j = omega arith in
        let far =
        starts_apart script at_hand.survey h.surveyed held later at_hand.k (j - at_hand.k - 1)
        (omega arith) in
        let same = ap (start_of script) apart in
        absurd (omega (arith, far, same, current (omega arith), from))
    | inr not_after ↦ omega arith
  ]
]

-- a pack of the current change
pub change_pack : (script : List Drawing) (at_hand : ChangeAtHand) (given : ℕ) (pack : List ℕ)
    → IsWeaving script at_hand given
    → ((k : ℕ) → k < pictures script → ready_time script k ≤ hold_time script k)
    → ((k : ℕ) → k + 1 < pictures script → hold_time script k < ready_time script (k + 1))
    → (at_hand.k < pictures script
    → given < start_of script at_hand.k + length (planned_change script at_hand.k))
    → at_hand.k < pictures script → start_of script at_hand.k ≤ given
    → IsWritten (get_or (planned_change script at_hand.k) (given - start_of script at_hand.k) Idle) pack
    → IsPackAt script given pack
change_pack script at_hand given pack h held later current lt from written = record {
  changed = λ j j_lt j_from j_to.
      let here = only_here script at_hand given h held later current j j_lt j_from j_to in
      subst (λ k. IsWritten (get_or (planned_change script k) (given - start_of script k) Idle) pack)
      (sym here) written;
  idle = λ all. elim (all at_hand.k lt) [
    | inl early ↦ absurd (omega (arith, early, from))
    | inr late ↦ absurd (omega (arith, late, current lt))
  ];
}

-- an idle pack
pub no_pack : (script : List Drawing) (at_hand : ChangeAtHand) (given : ℕ) (pack : List ℕ)
    → IsWeaving script at_hand given
    → ((k : ℕ) → k < pictures script → ready_time script k ≤ hold_time script k)
    → ((k : ℕ) → k + 1 < pictures script → hold_time script k < ready_time script (k + 1))
    → (at_hand.k < pictures script
    → given < start_of script at_hand.k + length (planned_change script at_hand.k))
    → (at_hand.k < pictures script → given < start_of script at_hand.k) → pack ≡ idle_pack
    → IsPackAt script given pack
no_pack script at_hand given pack h held later current early idle = record {
  changed = λ j j_lt j_from j_to.
      let here = only_here script at_hand given h held later current j j_lt j_from j_to in
      let starts = ap (start_of script) here in
      absurd (omega (arith, early (omega (arith, here, j_lt)), starts, j_from));
  idle = λ all. idle;
}

-- an instruction that can be written
abbrev pub IsFine : Instr → Type 0
IsFine instr = InRange instr × IsKnown instr

pub fine_at : (script : List Drawing) (change : List Instr) (k i : ℕ) → All IsFine (planned_change script k)
    → change ≡ planned_change script k → i < length change
    → IsFine (get_or change i Idle)
fine_at script change k i fine is lt = All-get_or IsFine change i Idle lt (subst (All IsFine) (sym is) fine)

pub busy_at : (script : List Drawing) (change : List Instr) (k i : ℕ)
    → All (λ instr. instr ≢ Idle) (planned_change script k)
    → change ≡ planned_change script k → i < length change
    → get_or change i Idle ≢ Idle
busy_at script change k i busy is lt =
    All-get_or (λ instr. instr ≢ Idle) change i Idle lt (subst (All (λ instr. instr ≢ Idle)) (sym is) busy)

-- the symbols that are written for an instruction other than idle do not begin with 0, so they are no idle pack
first_symbol : (instr : Instr) → instr ≢ Idle → slice_index (written_symbols instr) 0 ≡ 0
    → written_symbols instr ≡ []
first_symbol Idle busy zero = absurd (busy refl)
first_symbol Foreign busy zero = refl
first_symbol Unknown busy zero = refl
first_symbol (MemoryPreset colour repeat) busy zero = absurd (omega (arith, zero))
first_symbol (BorderPreset colour) busy zero = absurd (omega (arith, zero))
first_symbol (SetTile colour0 colour1 row column lines) busy zero = absurd (omega (arith, zero))
first_symbol (XorTile colour0 colour1 row column lines) busy zero = absurd (omega (arith, zero))
first_symbol (ScrollPreset colour across h down v) busy zero = absurd (omega (arith, zero))
first_symbol (ScrollCopy colour across h down v) busy zero = absurd (omega (arith, zero))
first_symbol (Transparency levels) busy zero = absurd (omega (arith, zero))
first_symbol (ColoursLow colours) busy zero = absurd (omega (arith, zero))
first_symbol (ColoursHigh colours) busy zero = absurd (omega (arith, zero))

idle_message : message_of idle_pack ≡ replicate 18 0
idle_message = refl

pub not_idle : (instr : Instr) (pack : List ℕ) → instr ≢ Idle → IsWritten instr pack → pack ≢ idle_pack
not_idle instr pack busy written idle =
    let symbols : written_symbols instr ≡ replicate 18 0 =
    sym written.message ∙ (ap message_of idle ∙ idle_message) in
    let none : written_symbols instr ≡ [] =
    first_symbol instr busy (ap (λ s. slice_index s 0) symbols) in
    let short : 18 ≡ 0 = ap length (sym symbols ∙ none) in
    absurd (omega (arith, short))

-- the place of a pack in the current change
pub place_at_hand : (script : List Drawing) (at_hand : ChangeAtHand) (given : ℕ)
    → IsWeaving script at_hand given → at_hand.k < pictures script
    → (at_hand.k < pictures script
    → given < start_of script at_hand.k + length (planned_change script at_hand.k)) → at_hand.start ≤ given
    → given - at_hand.start < length at_hand.change
place_at_hand script at_hand given h lt current le =
    let starts = h.start_is lt in
    let size : length at_hand.change ≡ length (planned_change script at_hand.k) =
    ap length (h.change_is lt) in
    let end = current lt in
    omega (arith, starts, size, end, le)
