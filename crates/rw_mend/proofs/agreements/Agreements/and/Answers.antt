use Rattle.std.proofs.Common.{subst}
use Rattle.rw_mend.specs.Agreements.{ArePairAgreements}
use Rattle.rw_mend.proofs.Agreeing.{other_more, same_more}
use Rattle.rw_mend.proofs.agreements.Agreements.and.Goals as goal

pub returns-then-is_same : goal.returns-then-is_same
returns-then-is_same c candidates i j is only are =
    same_more candidates i j c.args.pack.now c.in-Alone.own only (c.is_same.ensures.same c.if-is_same.true)
    (subst (ArePairAgreements candidates i j) c.in-Alone.is are)

pub returns-else-is_same : goal.returns-else-is_same
returns-else-is_same c candidates i j is only are =
    other_more candidates i j c.args.pack.now c.in-Alone.own is (c.is_same.ensures.other c.if-is_same.false)
    (subst (ArePairAgreements candidates i j) c.in-Alone.is are)
