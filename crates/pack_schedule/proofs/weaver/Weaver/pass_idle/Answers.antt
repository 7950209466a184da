use Rattle.std.proofs.Common.{ℕ, ◌+◌, ◌<◌, ◌≤◌, List, inl, inr, refl, subst, sym, arith}
use Rattle.std.proofs.lemmas.Bool.{cases_lt}
use Rattle.rw_code.specs.Packs.{idle_pack}
use Rattle.picture_script.specs.Script.{Drawing}
use Rattle.pack_schedule.specs.Weaving.{IsWeaving}
use Rattle.pack_schedule.specs.declared.weaver.ChangeAtHand.{ChangeAtHand}
use Rattle.pack_schedule.specs.Woven.{ArePassedBy, IsPackAt, Woven}
use Rattle.pack_schedule.proofs.Weaves.{begins_first, no_pack}
use Rattle.pack_schedule.proofs.weaver.Weaver.pass_idle.Goals as goal

-- the same change is the current one after more packs
later_weaving : (script : List Drawing) (at_hand : ChangeAtHand) (given more : ℕ)
    → IsWeaving script at_hand given → IsWeaving script at_hand (given + more)
later_weaving script at_hand given more w = record {
  surveyed = w.surveyed;
  k_most = w.k_most;
  change_is = w.change_is;
  start_is = w.start_is;
  before_stands = w.before_stands;
  now_stands = w.now_stands;
  no_start = w.no_start;
  sent = λ j less. omega (arith, w.sent j less);
}

pub invariant_of-self-2 : goal.invariant_of-self-2
invariant_of-self-2 c =
    let self = c.self.inside in
    subst (IsWeaving self.script.now c.skip_sent.new.self) (sym c.in-Some.ensures.1)
    (later_weaving self.script.now c.skip_sent.new.self self.given c.args.packs c.skip_sent.ensures.weaving)

pub returns-clause-passes : goal.returns-clause-passes
returns-clause-passes c = (
  (λ _.
      let self = c.self.inside in
      let at_hand = c.skip_sent.new.self in
      let w = c.skip_sent.ensures.weaving in
      let known = c.times_rise_and_colours_are_in_range.ensures in
      let end : self.given + c.args.packs ≤ at_hand.start =
      omega (arith, c.if-self-given.false, c.in-Some.ensures.1) in
      subst (λ (v : Woven). ArePassedBy v c.args.packs) c.self.view_is (record {
        fits = omega (arith, c.in-Some.ensures.0);
        apart = λ j lt. elim (cases_lt j at_hand.k) [
          | inl before ↦ inl (w.sent j before)
          | inr not_before ↦ inr (omega (
            arith,
            end,
            begins_first self.script.now at_hand self.given w known.held known.later j
                (omega (arith, not_before)) lt,
          ))
        ];
      })),
  (λ _. refl),
)

pub returns-clause-idle : goal.returns-clause-idle
returns-clause-idle c = λ reported n lt.
    let self = c.self.inside in
    let at_hand = c.skip_sent.new.self in
    let w = c.skip_sent.ensures.weaving in
    let known = c.times_rise_and_colours_are_in_range.ensures in
    let before : self.given + n < at_hand.start =
    omega (arith, c.if-self-given.false, c.in-Some.ensures.1, lt) in
    let on : IsWeaving self.script.now at_hand (self.given + n) =
    later_weaving self.script.now at_hand self.given n w in
    subst (λ (v : Woven). IsPackAt v.script (v.given + n) idle_pack) c.self.view_is
    (no_pack self.script.now at_hand (self.given + n) idle_pack on known.held known.later
    (λ less. omega (arith, before, w.start_is less)) (λ less. omega (arith, before, w.start_is less)) refl)
