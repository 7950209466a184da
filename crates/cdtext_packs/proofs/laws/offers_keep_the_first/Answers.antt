use Rattle.cdtext_packs.proofs.Offers.{kept_none, kept_more}
use Rattle.cdtext_packs.proofs.laws.offers_keep_the_first.Goals as goal

pub returns-clause-start : goal.returns-clause-start
returns-clause-start c = kept_none

pub returns-clause-next : goal.returns-clause-next
returns-clause-next c = kept_more
