use Rattle.rw_mend.proofs.Clean.{clean_wins}
use Rattle.rw_mend.proofs.laws.a_clean_codeword_is_mended.Goals as goal

pub returns : goal.returns
returns c candidates r codeword found = clean_wins candidates r codeword found
