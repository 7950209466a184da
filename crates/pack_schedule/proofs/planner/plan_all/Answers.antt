use Rattle.std.proofs.lemmas.Result.{err_from_is_err_and}
use Rattle.pack_schedule.proofs.planner.plan_all.Goals as goal

pub returns-in_err-survey_in-clause-err : goal.returns-in_err-survey_in-clause-err
returns-in_err-survey_in-clause-err c =
    let p =
    err_from_is_err_and c.from_residual-in_err-survey_in.result
    c.from_residual-in_err-survey_in.ensures.1 in
    rw (p.1, p.2) (c.survey_in.ensures.within, c.in_err-survey_in.ensures.late)
