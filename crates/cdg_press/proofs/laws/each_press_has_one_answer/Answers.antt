use Rattle.cdg_press.proofs.Some.{an_answer}
use Rattle.cdg_press.proofs.Stages.{one_reason, not_refused}
use Rattle.cdg_press.proofs.laws.each_press_has_one_answer.Goals as goal

pub returns-clause-some : goal.returns-clause-some
returns-clause-some c = an_answer

pub returns-clause-not_both : goal.returns-clause-not_both
returns-clause-not_both c = not_refused

pub returns-clause-one : goal.returns-clause-one
returns-clause-one c = one_reason
