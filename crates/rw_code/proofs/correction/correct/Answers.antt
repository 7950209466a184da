use Rattle.rw_code.proofs.Errors.{idle_near}
use Rattle.rw_code.proofs.correction.correct.Goals as goal

pub returns-then-wrong-le2-clause-reads : goal.returns-then-wrong-le2-clause-reads
returns-then-wrong-le2-clause-reads c =
    idle_near c.args.received.now c.idle.result c.weight-wrong.result c.idle.ensures
    c.weight-wrong.ensures.count c.if-wrong-le2.true
