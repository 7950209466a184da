use Rattle.rw_interleave.proofs.Windows.{none_in}
use Rattle.rw_interleave.proofs.gather.Gather.reset.Goals as goal

pub returns : goal.returns
returns c = none_in _ 7
