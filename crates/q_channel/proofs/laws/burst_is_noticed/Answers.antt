use Rattle.q_channel.proofs.Damaged.{burst_is_noticed as the_law}
use Rattle.q_channel.proofs.laws.burst_is_noticed.Goals as goal

pub returns : goal.returns
returns c = the_law
