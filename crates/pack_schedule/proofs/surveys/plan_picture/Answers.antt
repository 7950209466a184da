use Rattle.std.proofs.Common.{sym, ap, ◌∙◌, arith}
use Rattle.pack_schedule.specs.PlannedChange.{chosen_start, planned_change, planned_length}
use Rattle.pack_schedule.proofs.SurveyLaws.{first_start, later_start, start_below}
use Rattle.pack_schedule.proofs.surveys.plan_picture.Goals as goal

pub returns-then-k-eq0-clause-need : goal.returns-then-k-eq0-clause-need
returns-then-k-eq0-clause-need c =
    let script = c.args.script.now in
    let k = c.args.k in
    let small = c.times_rise_and_colours_are_in_range.ensures.pixels in
    c.choose_start-choice.ensures.need ∙ ap (planned_length script k) c.choose_start-choice.ensures.preset
    ∙ sym (c.changes_have_planned_lengths.ensures.length script k (chosen_start script k)
    (planned_change script k) small (c.planned_changes_are_changes.ensures.planned script k small))

pub returns-else-k-eq0-clause-need : goal.returns-else-k-eq0-clause-need
returns-else-k-eq0-clause-need c =
    let script = c.args.script.now in
    let k = c.args.k in
    let small = c.times_rise_and_colours_are_in_range.ensures.pixels in
    c.choose_start-choice.ensures.need ∙ ap (planned_length script k) c.choose_start-choice.ensures.preset
    ∙ sym (c.changes_have_planned_lengths.ensures.length script k (chosen_start script k)
    (planned_change script k) small (c.planned_changes_are_changes.ensures.planned script k small))

pub hold-requires : goal.hold-requires
hold-requires c = omega (arith, c.requires.picture)

pub whole_packs-start-requires : goal.whole_packs-start-requires
whole_packs-start-requires c = omega (arith, c.hold.ensures.below)

pub returns-then-k-eq0-clause-start : goal.returns-then-k-eq0-clause-start
returns-then-k-eq0-clause-start c = first_start c.args.script.now c.args.k c.if-k-eq0.true

pub returns-then-k-eq0-clause-below : goal.returns-then-k-eq0-clause-below
returns-then-k-eq0-clause-below c = (omega arith, c.choose_start-choice.ensures.few)

pub returns-else-k-eq0-clause-start : goal.returns-else-k-eq0-clause-start
returns-else-k-eq0-clause-start c =
    later_start c.args.script.now c.args.k c.whole_packs-start.result c.hold.result c.if-k-eq0.false
    c.whole_packs-start.ensures c.hold.ensures.value

pub returns-else-k-eq0-clause-below : goal.returns-else-k-eq0-clause-below
returns-else-k-eq0-clause-below c = (
  start_below c.whole_packs-start.result c.hold.result c.whole_packs-start.ensures c.hold.ensures.below,
  c.choose_start-choice.ensures.few,
)
