use Rattle.std.proofs.Common.{◌≡◌, ◌<◌, ℕ, List, Bool, length, true, false, Some, None, ap, sym, ◌∙◌, arith, rules, tests}
use Rattle.std.specs.Prelude.{if◌then◌else◌}
use Rattle.std.specs.List.{list_all}
use Rattle.std.proofs.lemmas.Grind.{common_steps}
use Rattle.std.proofs.lemmas.Iterator.{YieldsList-from_slice}
use Rattle.std.proofs.lemmas.Iterator.Search.{all_from_yields_List}
use Rattle.cue_sheet.specs.CueLines.{begins_quoted, is_plain, plain, quoted, text_argument}
use Rattle.cue_sheet.proofs.command.text.Goals as goal
use Rattle.cue_sheet.proofs.command.text.Goals.{in-34+in_ok-inside-in-34+else-not-is_empty, in_default, Joined-argument}

in_quotes : (s inside after : List ℕ) → begins_quoted s ≡ true → quoted s ≡ Some (inside, after)
    → length after ≡ 0
    → plain inside ≡ text_argument s
unfolding text_argument
in_quotes s inside after begins parts none = grind (arith, common_steps)

bare : (s : List ℕ) → begins_quoted s ≡ false → 0 < length s → plain s ≡ text_argument s
unfolding text_argument
bare s begins some = grind (arith, common_steps)

plain_if : (s : List ℕ) (all : Bool) → list_all is_plain s ≡ all → plain s ≡ (if all then Some s else None)
unfolding plain
plain_if s all is = ap (λ b. if b then Some s else None) is

pub returns-then-not-all-clause-text : goal.returns-then-not-all-clause-text
returns-then-not-all-clause-text c =
    let all : list_all is_plain c.match-argument.text.now ≡ false =
    sym (all_from_yields_List is_plain _ _ _ c.all.ensures.ran (YieldsList-from_slice _ c.iter.ensures.rest)
    (λ x b q k. search (rules, tests))) ∙ c.if-not-all.true in
    let same : plain c.match-argument.text.now ≡ text_argument c.args.argument.now =
    elim c.match-argument.branch [
      | in-34+in_ok-inside-in-34+else-not-is_empty w ↦
          ap (λ t. plain t.now) w.text-is
          ∙ in_quotes c.args.argument.now w.in_ok-inside-in-34.inside.now w.in_ok-inside-in-34.after.now
          (grind (arith, common_steps))
          (sym w.in_ok-inside-in-34.ensures.parts) (grind arith)
      | in_default w ↦
          ap (λ t. plain t.now) w.text-is
          ∙ bare c.args.argument.now (grind (arith, common_steps)) (grind (arith, common_steps))
    ] in
    sym (plain_if c.match-argument.text.now false all) ∙ same

pub returns-clause-text : goal.returns-clause-text
returns-clause-text c =
    let all : list_all is_plain c.match-argument.text.now ≡ true =
    sym (all_from_yields_List is_plain _ _ _ c.all.ensures.ran (YieldsList-from_slice _ c.iter.ensures.rest)
    (λ x b q k. search (rules, tests))) ∙ c.if-not-all.false in
    let same : plain c.match-argument.text.now ≡ text_argument c.args.argument.now =
    elim c.match-argument.branch [
      | in-34+in_ok-inside-in-34+else-not-is_empty w ↦
          ap (λ t. plain t.now) w.text-is
          ∙ in_quotes c.args.argument.now w.in_ok-inside-in-34.inside.now w.in_ok-inside-in-34.after.now
          (grind (arith, common_steps))
          (sym w.in_ok-inside-in-34.ensures.parts) (grind arith)
      | in_default w ↦
          ap (λ t. plain t.now) w.text-is
          ∙ bare c.args.argument.now (grind (arith, common_steps)) (grind (arith, common_steps))
    ] in
    sym (plain_if c.match-argument.text.now true all) ∙ same
