use Rattle.std.proofs.Common.{rules}
use Rattle.cdtext_packs.specs.Packs.{check_matches}
use Rattle.ribjasper_web.proofs.texts.matches.Goals as goal

pub returns : goal.returns
unfolding check_matches
returns c = search rules
