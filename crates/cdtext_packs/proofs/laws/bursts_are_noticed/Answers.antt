use Rattle.cdtext_packs.proofs.Damaged.{noticed}
use Rattle.cdtext_packs.proofs.laws.bursts_are_noticed.Goals as goal

pub returns : goal.returns
returns c = noticed
