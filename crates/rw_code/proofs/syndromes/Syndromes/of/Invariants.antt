use Rattle.rw_code.proofs.SyndromeLemmas.{IsPart}
use Rattle.rw_code.proofs.syndromes.Syndromes.of.Given as goal

abbrev pub invariant-loop-i : goal.invariant-loop-i
invariant-loop-i l = IsPart l.bytes l.i l.lanes
