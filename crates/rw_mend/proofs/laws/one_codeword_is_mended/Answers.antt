use Rattle.rw_mend.proofs.Once.{one_found, one_list}
use Rattle.rw_mend.proofs.laws.one_codeword_is_mended.Goals as goal

pub returns-clause-word : goal.returns-clause-word
returns-clause-word c candidates found other = one_found candidates found other

pub returns-clause-stream : goal.returns-clause-stream
returns-clause-stream c words programs said others found other =
    one_list words programs said others found other
