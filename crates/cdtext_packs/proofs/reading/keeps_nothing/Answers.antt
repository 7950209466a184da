use Rattle.std.proofs.Common.{◌∙◌, is_none, rules, tests}
use Rattle.std.proofs.lemmas.Iterator.{YieldsList-from_slice}
use Rattle.std.proofs.lemmas.Iterator.Search.{all_from_yields_List}
use Rattle.cdtext_packs.proofs.KeptPacks.{none_kept}
use Rattle.cdtext_packs.proofs.reading.keeps_nothing.Goals as goal

pub returns : goal.returns
returns c =
    all_from_yields_List is_none _ _ _ c.all.ensures.ran (YieldsList-from_slice _ c.iter.ensures.rest)
    (λ x b q k. search (rules, tests))
    ∙ none_kept c.args.kept.now
