use Rattle.std.proofs.Common.{arith}
use Rattle.std.proofs.lemmas.Grind.{common_steps}
use Rattle.cdg_io.proofs.memory.SteadySourceSource.feed_at_hand.Goals as goal

pub returns-clause-fed : goal.returns-clause-fed
returns-clause-fed g c = grind (arith, common_steps)
