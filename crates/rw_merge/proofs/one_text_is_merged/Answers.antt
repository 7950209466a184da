use Rattle.rw_merge.proofs.Restoring.{one_text}
use Rattle.rw_merge.proofs.one_text_is_merged.Goals as goal

pub returns : goal.returns
returns c = one_text
