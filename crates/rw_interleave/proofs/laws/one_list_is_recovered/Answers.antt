use Rattle.rw_code.specs.Finding.{finding}
use Rattle.rw_interleave.proofs.Recovery.{small_get, some_recovered, one_recovered}
use Rattle.rw_interleave.proofs.laws.one_list_is_recovered.Goals as goal

pub returns-clause-some : goal.returns-clause-some
returns-clause-some c form symbols small =
    (_, some_recovered finding c.each_word_has_one_finding.ensures.is form symbols (small_get symbols small))

pub returns-clause-one : goal.returns-clause-one
returns-clause-one c form symbols found other small recovered again =
    one_recovered finding c.each_word_has_one_finding.ensures.only form symbols (small_get symbols small)
    found other recovered again
