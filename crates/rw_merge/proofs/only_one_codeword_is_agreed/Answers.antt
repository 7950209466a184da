use Rattle.rw_merge.proofs.Readings.{only_one_agreed}
use Rattle.rw_merge.proofs.only_one_codeword_is_agreed.Goals as goal

pub returns : goal.returns
returns c = only_one_agreed
