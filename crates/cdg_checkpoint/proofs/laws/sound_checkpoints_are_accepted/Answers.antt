use Rattle.cdg_checkpoint.proofs.Accepted.{accepted, same}
use Rattle.cdg_checkpoint.proofs.laws.sound_checkpoints_are_accepted.Goals as goal

pub returns-clause-accepted : goal.returns-clause-accepted
returns-clause-accepted c = accepted

pub returns-clause-same : goal.returns-clause-same
returns-clause-same c = same
