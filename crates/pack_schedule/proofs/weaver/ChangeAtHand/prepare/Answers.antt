use Rattle.std.proofs.Common.{◌≡◌, ◌≤◌, ◌-◌, ap, subst, sym, ◌∙◌, arith}
use Rattle.picture_script.specs.Board.{IsPicture, StandsBefore}
use Rattle.pack_schedule.specs.declared.weaver.ChangeAtHand.{ChangeAtHand}
use Rattle.pack_schedule.specs.declared.surveys.PlannedChange.{PlannedChange}
use Rattle.pack_schedule.proofs.SurveyLaws.{stands_at, stands_later}
use Rattle.pack_schedule.proofs.Weaves.{change_empty, change_planned, start_allowed}
use Rattle.pack_schedule.proofs.weaver.ChangeAtHand.prepare.Goals as goal
use Rattle.pack_schedule.proofs.weaver.ChangeAtHand.prepare.Goals.{then-k-gt0, else-k-gt0}

pub plan-requires-clause-start : goal.plan-requires-clause-start
plan-requires-clause-start c =
    start_allowed c.planned_changes_are_changes.ensures.start c.args.script.now c.args.self.now.survey
    c.args.self.now.k c.change-planned.result.preset c.requires.surveyed c.requires.picture
    (ap (λ (p : PlannedChange). p.preset) c.change-planned.ensures)

pub returns-clause-change : goal.returns-clause-change
returns-clause-change c =
    change_planned c.args.script.now c.args.self.now.survey c.args.self.now.k c.change-planned.result.preset
    c.plan.new.self c.requires.surveyed c.requires.picture
    (ap (λ (p : PlannedChange). p.preset) c.change-planned.ensures) c.plan.ensures

pub returns-clause-start : goal.returns-clause-start
returns-clause-start c =
    let start : c.if-k-gt0.self.start ≡ c.change-planned.result.start = elim c.if-k-gt0.branch [
      | then-k-gt0 w ↦ ap (λ (at_hand : ChangeAtHand). at_hand.start) w.self-is
      | else-k-gt0 w ↦ ap (λ (at_hand : ChangeAtHand). at_hand.start) w.self-is
    ] in
    start
    ∙ ap (λ (p : PlannedChange). p.start) c.change-planned.ensures
    ∙ (c.requires.surveyed.each c.args.self.now.k c.requires.picture).start_is

pub plan-requires-clause-before : goal.plan-requires-clause-before
plan-requires-clause-before c pos = elim c.if-k-gt0.branch [
  | then-k-gt0 w ↦
      subst
      (λ (at_hand : ChangeAtHand). IsPicture c.args.script.now (c.args.self.now.k - 1) at_hand.before)
      (sym w.self-is) w.draw_like.ensures.picture
  | else-k-gt0 w ↦ absurd (omega (arith, pos, w.if-k-gt0.false))
]

pub returns-then-planned-eq0-clause-change : goal.returns-then-planned-eq0-clause-change
returns-then-planned-eq0-clause-change c =
    change_empty c.args.script.now c.args.self.now.survey c.args.self.now.k c.change-planned.result.need
    c.clear.new.self c.requires.surveyed c.requires.picture
    (ap (λ (p : PlannedChange). p.need) c.change-planned.ensures) c.if-planned-eq0.true c.clear.ensures

pub returns-then-planned-eq0-clause-start : goal.returns-then-planned-eq0-clause-start
returns-then-planned-eq0-clause-start c =
    ap (λ (p : PlannedChange). p.start) c.change-planned.ensures
    ∙ (c.requires.surveyed.each c.args.self.now.k c.requires.picture).start_is

pub returns-then-planned-eq0-clause-before : goal.returns-then-planned-eq0-clause-before
returns-then-planned-eq0-clause-before c =
    let k = c.args.self.now.k in
    let before : k - 1 ≤ k = omega arith in
    stands_later c.args.script.now (k - 1) k c.args.self.now.before before c.requires.before

pub returns-then-planned-eq0-clause-now : goal.returns-then-planned-eq0-clause-now
returns-then-planned-eq0-clause-now c =
    let k = c.args.self.now.k in
    let before : k - 1 ≤ k = omega arith in
    stands_later c.args.script.now (k - 1) k c.args.self.now.now before c.requires.now

pub draw_until-requires-2-clause-before : goal.draw_until-requires-2-clause-before
draw_until-requires-2-clause-before c =
    let script = c.args.script.now in
    let k = c.args.self.now.k in
    let before : k - 1 ≤ k = omega arith in
    elim c.if-k-gt0.branch [
      | then-k-gt0 w ↦
          subst (λ (at_hand : ChangeAtHand). StandsBefore script k at_hand.now) (sym w.self-is)
          (stands_at script (k - 1) k w.draw_until.new.self w.draw_until.ensures.at
          w.draw_until.ensures.picture before)
      | else-k-gt0 w ↦
          subst (λ (at_hand : ChangeAtHand). StandsBefore script k at_hand.now) (sym w.self-is)
          (stands_later script (k - 1) k c.args.self.now.now before c.requires.now)
    ]

pub plan-requires-clause-now : goal.plan-requires-clause-now
plan-requires-clause-now c = c.draw_until-2.ensures.picture

pub returns-clause-before : goal.returns-clause-before
returns-clause-before c =
    let script = c.args.script.now in
    let k = c.args.self.now.k in
    let before : k - 1 ≤ k = omega arith in
    elim c.if-k-gt0.branch [
      | then-k-gt0 w ↦
          subst (λ (at_hand : ChangeAtHand). StandsBefore script k at_hand.before) (sym w.self-is)
          (stands_at script (k - 1) k w.draw_like.new.self w.draw_like.ensures.at w.draw_like.ensures.picture
          before)
      | else-k-gt0 w ↦
          subst (λ (at_hand : ChangeAtHand). StandsBefore script k at_hand.before) (sym w.self-is)
          (stands_later script (k - 1) k c.args.self.now.before before c.requires.before)
    ]

pub returns-clause-now : goal.returns-clause-now
returns-clause-now c =
    let k = c.args.self.now.k in
    let same : k ≤ k = omega arith in
    stands_at c.args.script.now k k c.draw_until-2.new.self c.draw_until-2.ensures.at
    c.draw_until-2.ensures.picture same

pub returns-clause-survey : goal.returns-clause-survey
returns-clause-survey c = elim c.if-k-gt0.branch [
  | then-k-gt0 w ↦ ap (λ (at_hand : ChangeAtHand). at_hand.survey) w.self-is
  | else-k-gt0 w ↦ ap (λ (at_hand : ChangeAtHand). at_hand.survey) w.self-is
]

pub returns-clause-k : goal.returns-clause-k
returns-clause-k c = elim c.if-k-gt0.branch [
  | then-k-gt0 w ↦ ap (λ (at_hand : ChangeAtHand). at_hand.k) w.self-is
  | else-k-gt0 w ↦ ap (λ (at_hand : ChangeAtHand). at_hand.k) w.self-is
]
