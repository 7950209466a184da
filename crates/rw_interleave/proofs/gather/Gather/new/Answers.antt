use Rattle.rw_interleave.proofs.Windows.{none_in, fresh_window}
use Rattle.rw_interleave.proofs.gather.Gather.new.Goals as goal

pub invariant_of-result : goal.invariant_of-result
invariant_of-result c = fresh_window

pub returns : goal.returns
returns c = none_in _ 7
