use Rattle.rw_code.specs.Syndromes.{lane}
use Rattle.rw_code.proofs.syndromes.Syndromes.lane.Goals as goal

pub returns : goal.returns
unfolding lane
returns c = rw c.unwrap.ensures at c.new.ensures.some
