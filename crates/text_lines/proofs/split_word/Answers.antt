use Rattle.std.proofs.Common.{ap, ◌∙◌, take, rules, tests}
use Rattle.std.proofs.lemmas.Iterator.{YieldsList-from_slice}
use Rattle.std.proofs.lemmas.Iterator.Search.{position_from_yields_List}
use Rattle.text_lines.specs.Text.{first_word, is_blank}
use Rattle.text_lines.proofs.Places.{place_from}
use Rattle.text_lines.proofs.split_word.Goals as goal

pub returns-clause-word : goal.returns-clause-word
unfolding first_word
returns-clause-word c =
    c.split_at.ensures.front
    ∙ ap (λ n. take n c.args.line.now)
    (place_from is_blank c.args.line.now c.position.result _
    (position_from_yields_List is_blank _ _ c.position.result c.position.ensures.ran
    (YieldsList-from_slice _ c.iter.ensures.rest) (λ x b q k. search (rules, tests)))
    c.unwrap_or-end.ensures)
