use Rattle.bit_lists.proofs.Bursts.{bursts_fail_the_check as the_law}
use Rattle.bit_lists.proofs.check.bursts_fail_the_check.Goals as goal

pub returns : goal.returns
returns c = the_law
