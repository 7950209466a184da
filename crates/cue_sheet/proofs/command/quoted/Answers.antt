use Rattle.std.proofs.Common.{◌≡◌, ℕ, ◌+◌, ◌-◌, List, length, take, drop, Some, ap, sym, ◌∙◌, arith, rules, tests}
use Rattle.std.specs.Prelude.{Option, option_map}
use Rattle.std.specs.List.{position}
use Rattle.std.proofs.lemmas.Grind.{common_steps}
use Rattle.std.proofs.lemmas.Iterator.{YieldsList-from_slice}
use Rattle.std.proofs.lemmas.Iterator.Search.{position_from_yields_List}
use Rattle.cue_sheet.specs.CueLines.{is_quote, quoted}
use Rattle.cue_sheet.proofs.command.quoted.Goals as goal

rest_of : (n : ℕ) (s : List ℕ) → take (length s - n) (drop n s) ≡ drop n s
rest_of n s = grind (arith, common_steps)

abbrev parts_at : List ℕ → Option ℕ → Option (List ℕ × List ℕ)
parts_at rest place = option_map (λ (end : ℕ). (take end rest, drop (end + 1) rest)) place

quoted_by : (s : List ℕ) (place : Option ℕ) → place ≡ position is_quote (take (length s - 1) (drop 1 s))
    → parts_at (drop 1 s) place ≡ quoted s
unfolding quoted
quoted_by s place is = ap (parts_at (drop 1 s)) (is ∙ ap (position is_quote) (rest_of 1 s))

pub returns-in_err-end-clause-parts : goal.returns-in_err-end-clause-parts
returns-in_err-end-clause-parts c =
    let place =
    position_from_yields_List is_quote _ _ c.position.result c.position.ensures.ran
    (YieldsList-from_slice _ c.iter.ensures.rest) (λ x b q k. search (rules, tests)) in
    ap (option_map (λ parts. (parts.0.now, parts.1.now))) c.from_residual.ensures
    ∙ (ap (parts_at (drop 1 c.args.argument.now)) (sym c.in_err-end.was)
    ∙ quoted_by c.args.argument.now c.position.result place)

same_parts : (s : List ℕ) (end : ℕ)
    → (let rest : List ℕ = take (length s - 1) (drop 1 s) in
    Some (take end rest, take (length rest - (end + 1)) (drop (end + 1) rest)))
    ≡ parts_at (drop 1 s) (Some end)
same_parts s end =
    ap (λ (rest : List ℕ). Some (take end rest, take (length rest - (end + 1)) (drop (end + 1) rest)))
    (rest_of 1 s)
    ∙ ap (λ (after : List ℕ). Some (take end (drop 1 s), after)) (rest_of (end + 1) (drop 1 s))

pub returns-clause-parts : goal.returns-clause-parts
returns-clause-parts c =
    let place =
    position_from_yields_List is_quote _ _ c.position.result c.position.ensures.ran
    (YieldsList-from_slice _ c.iter.ensures.rest) (λ x b q k. search (rules, tests)) in
    same_parts c.args.argument.now c.in_ok-end.end
    ∙ (ap (parts_at (drop 1 c.args.argument.now)) (sym c.in_ok-end.was)
    ∙ quoted_by c.args.argument.now c.position.result place)
