use Rattle.std.proofs.Common.{refl}
use Rattle.rw_code.proofs.SyndromeLemmas.{entry_is}
use Rattle.rw_code.proofs.syndromes.entry.Goals as goal

pub returns : goal.returns
returns c = entry_is c.args.position c.args.symbol _ c.requires.position c.requires.symbol refl
