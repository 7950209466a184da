use Rattle.rw_interleave.proofs.Recovery.{clean_found}
use Rattle.rw_interleave.proofs.laws.clean_words_are_found.Goals as goal

pub returns : goal.returns
returns c form symbols found codewords recovered =
    clean_found form symbols found c.only_one_codeword_is_near.ensures codewords recovered
