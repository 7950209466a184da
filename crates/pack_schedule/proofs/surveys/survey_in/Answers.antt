use Rattle.std.proofs.Common.{sym, subst}
use Rattle.std.proofs.lemmas.Result.{err_from_is_err_and}
use Rattle.pack_schedule.specs.Survey.{IsSurvey}
use Rattle.pack_schedule.proofs.SurveyLaws.{is_within, none_planned, stands_first}
use Rattle.pack_schedule.proofs.surveys.survey_in.Goals as goal

pub plan_pictures-requires : goal.plan_pictures-requires
plan_pictures-requires c =
    let room = c.requires.room in
    record {
      planned = none_planned c.args.script.now c.args.room.planned.items room.none.0;
      before = stands_first c.args.script.now c.args.room.before room.before.0 room.before.1;
      now = stands_first c.args.script.now c.args.room.now room.now.0 room.now.1;
      count = room.none.1;
      fits = room.fits;
    }

pub returns-in_err-plan_pictures-clause-late : goal.returns-in_err-plan_pictures-clause-late
returns-in_err-plan_pictures-clause-late c =
    let p = err_from_is_err_and c.from_residual.result c.from_residual.ensures.1 in
    rw (p.1, p.2) c.in_err-plan_pictures.ensures.late

pub returns-in_err-plan_pictures-clause-within : goal.returns-in_err-plan_pictures-clause-within
returns-in_err-plan_pictures-clause-within c =
    let known = c.times_rise_and_colours_are_in_range.ensures in
    is_within c.args.script.now c.args.blocks (record { held = known.held; later = known.later })
    c.requires.end

pub returns-clause-planned : goal.returns-clause-planned
returns-clause-planned c =
    subst (IsSurvey c.args.script.now) (sym c.into_survey.ensures) c.in_ok-plan_pictures.ensures.planned

pub returns-clause-within : goal.returns-clause-within
returns-clause-within c =
    let known = c.times_rise_and_colours_are_in_range.ensures in
    is_within c.args.script.now c.args.blocks (record { held = known.held; later = known.later })
    c.requires.end
