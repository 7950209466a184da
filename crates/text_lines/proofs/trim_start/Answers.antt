use Rattle.std.proofs.Common.{arith, rules, tests}
use Rattle.std.specs.Prelude.{not}
use Rattle.std.proofs.lemmas.Grind.{common_steps}
use Rattle.std.proofs.lemmas.Iterator.{YieldsList-from_slice}
use Rattle.std.proofs.lemmas.Iterator.Search.{position_from_yields_List}
use Rattle.text_lines.specs.Text.{is_blank}
use Rattle.text_lines.proofs.Places.{place_from}
use Rattle.text_lines.proofs.WordSteps.{without_blanks_by_place, without_blanks-twice, words-trimmed}
use Rattle.text_lines.proofs.trim_start.Goals as goal

pub returns-clause-rest : goal.returns-clause-rest
returns-clause-rest c =
    let place =
    place_from (λ b. not (is_blank b)) c.args.line.now c.position.result _
    (position_from_yields_List (λ b. not (is_blank b)) _ _ c.position.result c.position.ensures.ran
    (YieldsList-from_slice _ c.iter.ensures.rest) (λ x b q k. search (rules, tests)))
    c.unwrap_or-start.ensures in
    grind (arith, common_steps, without_blanks_by_place c.args.line.now, place)

pub returns-clause-trimmed : goal.returns-clause-trimmed
returns-clause-trimmed c =
    let place =
    place_from (λ b. not (is_blank b)) c.args.line.now c.position.result _
    (position_from_yields_List (λ b. not (is_blank b)) _ _ c.position.result c.position.ensures.ran
    (YieldsList-from_slice _ c.iter.ensures.rest) (λ x b q k. search (rules, tests)))
    c.unwrap_or-start.ensures in
    grind (
      arith,
      common_steps,
      without_blanks_by_place c.args.line.now,
      place,
      without_blanks-twice c.args.line.now,
    )

pub returns-clause-words : goal.returns-clause-words
returns-clause-words c =
    let place =
    place_from (λ b. not (is_blank b)) c.args.line.now c.position.result _
    (position_from_yields_List (λ b. not (is_blank b)) _ _ c.position.result c.position.ensures.ran
    (YieldsList-from_slice _ c.iter.ensures.rest) (λ x b q k. search (rules, tests)))
    c.unwrap_or-start.ensures in
    words-trimmed c.args.line.now _
    (grind (arith, common_steps, without_blanks_by_place c.args.line.now, place))
