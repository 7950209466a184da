use Rattle.rw_mend.proofs.Alone.{mended_alone}
use Rattle.rw_mend.proofs.laws.a_codeword_that_counts_alone_is_mended.Goals as goal

pub returns : goal.returns
returns c candidates codeword r distance found = mended_alone candidates codeword r distance found
