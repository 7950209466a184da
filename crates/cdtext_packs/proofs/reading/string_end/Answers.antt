use Rattle.std.proofs.Common.{rules, tests}
use Rattle.std.proofs.lemmas.Iterator.{YieldsList-from_slice}
use Rattle.std.proofs.lemmas.Iterator.Search.{position_from_yields_List}
use Rattle.cdtext_packs.specs.Reading.{is_zero}
use Rattle.cdtext_packs.proofs.Cuts.{place_from}
use Rattle.cdtext_packs.proofs.reading.string_end.Goals as goal

pub returns-clause-end : goal.returns-clause-end
returns-clause-end c =
    place_from is_zero c.args.bytes.now c.position.result _
    (position_from_yields_List is_zero _ _ c.position.result c.position.ensures.ran
    (YieldsList-from_slice _ c.iter.ensures.rest) (λ x b q k. search (rules, tests)))
    c.unwrap_or.ensures
