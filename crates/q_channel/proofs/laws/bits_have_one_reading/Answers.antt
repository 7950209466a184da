use Rattle.q_channel.proofs.OneReading.{bits_have_one_reading as the_law}
use Rattle.q_channel.proofs.laws.bits_have_one_reading.Goals as goal

pub returns : goal.returns
returns c = the_law
