use Rattle.pack_schedule.proofs.SurveyLaws.{NeedsAreFewest, fewest_of, late_of}
use Rattle.pack_schedule.proofs.planner.survey.Goals as goal

pub returns-clause-fewest : goal.returns-clause-fewest
returns-clause-fewest c =
    let n = c.needs_are_fewest.ensures in
    let needs : NeedsAreFewest = record { change = n.change; planned = n.planned; late = n.late } in
    let known = c.times_rise_and_colours_are_in_range.ensures in
    fewest_of needs c.args.script.now (record { border = known.borders; colour = known.colours }) known.pixels
    c.plan_all.result c.plan_all.ensures.planned

pub returns-clause-late : goal.returns-clause-late
returns-clause-late c picture need free late =
    let n = c.needs_are_fewest.ensures in
    let needs : NeedsAreFewest = record { change = n.change; planned = n.planned; late = n.late } in
    let known = c.times_rise_and_colours_are_in_range.ensures in
    late_of needs c.args.script.now c.args.blocks (record { held = known.held; later = known.later })
    (record { border = known.borders; colour = known.colours }) known.pixels c.plan_all.result
    c.plan_all.ensures.err picture need free late
