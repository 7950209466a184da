use Rattle.std.proofs.Common.{arith}
use Rattle.std.proofs.lemmas.Grind.{common_steps}
use Rattle.cdg_io.proofs.buffers.BufferedSourceSource.feed_all_at_hand.Goals as goal

pub returns-clause-works : goal.returns-clause-works
returns-clause-works g c = grind (arith, common_steps)
