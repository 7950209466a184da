use Rattle.rw_code.proofs.Errors.{itself}
use Rattle.rw_code.proofs.correction.correct_by_sums.Goals as goal

pub returns-in-Some-clause-reads : goal.returns-in-Some-clause-reads
returns-in-Some-clause-reads c = itself _ _ c.in-Some.ensures.0 c.in-Some.ensures.1
