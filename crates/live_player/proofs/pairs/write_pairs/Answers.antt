use Rattle.std.proofs.Common.{arith}
use Rattle.live_player.proofs.pairs.write_pairs.Goals as goal

pub loop-r-preserved : goal.loop-r-preserved
loop-r-preserved c i k i_lt = c.write_more_pairs.ensures i k (omega (arith, i_lt))

pub returns : goal.returns
returns c i k i_lt = c.write_more_pairs-2.ensures i k (omega (arith, i_lt))
