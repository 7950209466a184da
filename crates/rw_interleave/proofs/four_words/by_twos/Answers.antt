use Rattle.rw_interleave.proofs.FourWords.{twos_shuffled}
use Rattle.rw_interleave.proofs.four_words.by_twos.Goals as goal

pub returns-clause-lanes : goal.returns-clause-lanes
returns-clause-lanes c = twos_shuffled c.args.even c.args.odd c.requires.even c.requires.odd
