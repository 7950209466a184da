use Rattle.rw_mend.specs.Agreements.{ArePairAgreements}
use Rattle.rw_mend.proofs.agreements.agreed.Given as goal

abbrev pub invariant-loop-j : goal.invariant-loop-j
invariant-loop-j l = ArePairAgreements l.candidates 0 l.j l.found

abbrev pub invariant-loop-i : goal.invariant-loop-i
invariant-loop-i l = ArePairAgreements l.candidates l.i l.j l.found
