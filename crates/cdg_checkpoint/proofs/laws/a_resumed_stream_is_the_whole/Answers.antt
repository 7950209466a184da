use Rattle.cdg_checkpoint.proofs.Joined.{resumed_whole}
use Rattle.cdg_checkpoint.proofs.laws.a_resumed_stream_is_the_whole.Goals as goal

pub returns : goal.returns
returns c = resumed_whole
