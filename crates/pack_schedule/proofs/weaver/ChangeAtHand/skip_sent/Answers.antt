use Rattle.std.proofs.Common.{◌≡◌, ◌+◌, ◌-◌, ◌<◌, ◌≤◌, length, refl, sym, subst, ap, arith}
use Rattle.picture_script.specs.Script.{pictures}
use Rattle.pack_schedule.specs.PlannedChange.{planned_change}
use Rattle.pack_schedule.specs.Schedule.{start_of}
use Rattle.pack_schedule.specs.Weaving.{IsWeaving}
use Rattle.pack_schedule.specs.declared.surveys.PlannedChange.{PlannedChange}
use Rattle.pack_schedule.specs.declared.weaver.ChangeAtHand.{ChangeAtHand}
use Rattle.pack_schedule.proofs.SurveyLaws.{stands_later}
use Rattle.pack_schedule.proofs.Weaves.{next_weaves}
use Rattle.pack_schedule.proofs.weaver.ChangeAtHand.skip_sent.Goals as goal
use Rattle.pack_schedule.proofs.weaver.ChangeAtHand.skip_sent.Goals.{then-self-pictures, else-self-pictures}

pub prepare-requires-clause-before : goal.prepare-requires-clause-before
prepare-requires-clause-before c =
    let self = c.loop-k.self in
    stands_later c.args.script.now self.k (self.k + 1 - 1) self.before (omega arith)
    c.loop-k.invariant.0.before_stands

pub prepare-requires-clause-now : goal.prepare-requires-clause-now
prepare-requires-clause-now c =
    let self = c.loop-k.self in
    stands_later c.args.script.now self.k (self.k + 1 - 1) self.now (omega arith)
    c.loop-k.invariant.0.now_stands

pub loop-k-preserved : goal.loop-k-preserved
loop-k-preserved c =
    let script = c.args.script.now in
    let self = c.loop-k.self in
    let weaving = c.loop-k.invariant.0 in
    let known = c.pictures-pictures.ensures.value in
    let lt : self.k < pictures script = omega (arith, known, c.loop-k-test.true, c.loop-k.invariant.1) in
    let row = weaving.surveyed.each self.k lt in
    let sent : start_of script self.k + length (planned_change script self.k) ≤ c.args.given =
    omega (
      arith,
      c.if-given-planned.false,
      ap (λ (change : PlannedChange). change.start) c.change-planned.ensures,
      ap (λ (change : PlannedChange). change.need) c.change-planned.ensures,
      row.start_is,
      row.need_is,
    ) in
    let IsNext : ChangeAtHand → Type 0 = λ at_hand.
    IsWeaving script at_hand c.args.given × (at_hand.k ≡ c.loop-k._k + 1) in
    elim c.if-self-pictures.branch [
      | then-self-pictures w ↦
          let made = w.prepare.ensures in
          let end = λ (all : w.prepare.new.self.k ≡ pictures script).
          absurd (omega (arith, all, made.k, w.if-self-pictures.true, known)) in
          subst IsNext (sym w.self-is) (
            next_weaves script self w.prepare.new.self c.args.given weaving lt sent made.survey made.k
                made.before made.now (λ _. (made.change, made.start)) end,
            omega (arith, made.k, c.loop-k.invariant.1),
          )
      | else-self-pictures w ↦
          subst IsNext (sym w.self-is) (
            next_weaves script self _ c.args.given weaving lt sent refl refl
                (stands_later script self.k (self.k + 1) self.before (omega arith) weaving.before_stands)
                (stands_later script self.k (self.k + 1) self.now (omega arith) weaving.now_stands)
                (λ less. absurd (omega (arith, less, w.if-self-pictures.false, known))) (λ _. refl),
            omega (arith, c.loop-k.invariant.1),
          )
    ]
