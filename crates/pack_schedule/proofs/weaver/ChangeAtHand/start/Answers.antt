use Rattle.std.proofs.Common.{refl, sym, subst, arith}
use Rattle.pack_schedule.specs.Survey.{IsSurvey}
use Rattle.pack_schedule.specs.Weaving.{IsWeaving}
use Rattle.pack_schedule.specs.declared.weaver.ChangeAtHand.{ChangeAtHand}
use Rattle.pack_schedule.proofs.SurveyLaws.{stands_blank}
use Rattle.pack_schedule.proofs.Weaves.{first_weaves}
use Rattle.pack_schedule.proofs.weaver.ChangeAtHand.start.Goals as goal
use Rattle.pack_schedule.proofs.weaver.ChangeAtHand.start.Goals.{then-pictures-gt0, else-pictures-gt0}

pub prepare-requires-clause-before : goal.prepare-requires-clause-before
prepare-requires-clause-before c =
    let blank = c.in_ok-before.ensures.0 in
    stands_blank c.args.script.now 0 c.in_ok-before.before blank.0 blank.1

pub prepare-requires-clause-now : goal.prepare-requires-clause-now
prepare-requires-clause-now c =
    let blank = c.in_ok-before.ensures.1 in
    stands_blank c.args.script.now 0 c.in_ok-before.now blank.0 blank.1

pub returns : goal.returns
returns c =
    let script = c.args.script.now in
    let blank = c.in_ok-before.ensures in
    let before = stands_blank script 0 c.in_ok-before.before blank.0.0 blank.0.1 in
    let now = stands_blank script 0 c.in_ok-before.now blank.1.0 blank.1.1 in
    elim c.if-pictures-gt0.branch [
      | then-pictures-gt0 w ↦
          let made = w.prepare.ensures in
          subst (λ (at_hand : ChangeAtHand). IsWeaving c.args.script.now at_hand 0) (sym w.at_hand-is)
          (first_weaves script w.prepare.new.self (subst (IsSurvey script) (sym made.survey) c.requires)
          made.k made.before made.now (λ _. (made.change, made.start))
          (λ end. absurd (omega (arith, end, made.k, w.if-pictures-gt0.true, c.pictures.ensures.value))))
      | else-pictures-gt0 w ↦
          subst (λ (at_hand : ChangeAtHand). IsWeaving c.args.script.now at_hand 0) (sym w.at_hand-is)
          (first_weaves script _ c.requires refl before now
          (λ lt. absurd (omega (arith, lt, w.if-pictures-gt0.false, c.pictures.ensures.value))) (λ _. refl))
    ]
