use Rattle.std.proofs.Common.{◌==◌, length, arith, refl, rules, tests}
use Rattle.std.proofs.lemmas.Grind.{common_steps}
use Rattle.std.proofs.lemmas.Iterator.{YieldsList-from_slice}
use Rattle.std.proofs.lemmas.Iterator.Search.{position_from_yields_List}
use Rattle.text_lines.proofs.LineSteps.{no_line, last_line, first_line, rest_is, no_rest}
use Rattle.text_lines.proofs.Places.{place_some, place_none}
use Rattle.text_lines.proofs.next_line.Goals as goal
use Rattle.text_lines.proofs.next_line.Goals.{in-13, in_default-2, in_default-2-2}

pub returns-then-is_empty-clause-lines : goal.returns-then-is_empty-clause-lines
returns-then-is_empty-clause-lines c = no_line c.args.text.now (grind arith)

pub returns-in_default-clause-lines : goal.returns-in_default-clause-lines
returns-in_default-clause-lines c =
    last_line c.args.text.now (length c.args.text.now)
    (place_none (λ b. b == 10) c.args.text.now c.position.result
    (position_from_yields_List (λ b. b == 10) _ _ c.position.result c.position.ensures.ran
    (YieldsList-from_slice _ c.iter.ensures.rest) (λ x b q k. search (rules, tests)))
    c.in_default.is) refl (grind arith)

pub returns-clause-lines : goal.returns-clause-lines
returns-clause-lines c =
    let place =
    place_some (λ b. b == 10) c.args.text.now c.position.result c.in-Some.end
    (position_from_yields_List (λ b. b == 10) _ _ c.position.result c.position.ensures.ran
    (YieldsList-from_slice _ c.iter.ensures.rest) (λ x b q k. search (rules, tests)))
    c.in-Some.is in
    first_line c.args.text.now c.in-Some.end _ place (grind arith)
    (elim c.if-text-end-lt1.branch [
      | in-13 w ↦ grind (arith, common_steps)
      | in_default-2 w ↦ grind (arith, common_steps)
      | in_default-2-2 w ↦ grind (arith, common_steps)
    ])

pub returns-in_default-clause-rest : goal.returns-in_default-clause-rest
returns-in_default-clause-rest c =
    no_rest c.args.text.now (length c.args.text.now)
    (place_none (λ b. b == 10) c.args.text.now c.position.result
    (position_from_yields_List (λ b. b == 10) _ _ c.position.result c.position.ensures.ran
    (YieldsList-from_slice _ c.iter.ensures.rest) (λ x b q k. search (rules, tests)))
    c.in_default.is) refl

pub returns-clause-rest : goal.returns-clause-rest
returns-clause-rest c =
    rest_is c.args.text.now c.in-Some.end
    (place_some (λ b. b == 10) c.args.text.now c.position.result c.in-Some.end
    (position_from_yields_List (λ b. b == 10) _ _ c.position.result c.position.ensures.ran
    (YieldsList-from_slice _ c.iter.ensures.rest) (λ x b q k. search (rules, tests)))
    c.in-Some.is)
