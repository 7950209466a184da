use Rattle.rw_interleave.proofs.Spreads.{carries}
use Rattle.rw_interleave.proofs.spread.spread_carries.Goals as goal

pub returns : goal.returns
returns c = carries
