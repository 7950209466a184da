use Rattle.std.proofs.Common.{◌≡◌, ◌∙◌, false, length, refl, sym, ap, rules, arith}
use Rattle.std.proofs.lemmas.List.{length-map}
use Rattle.std.proofs.lemmas.Result.{IfOk-from_err}
use Rattle.cdtext_packs.specs.Texts.{has_no_text, texts_with}
use Rattle.cdtext_packs.proofs.WholeTexts.{none_with, some_text, strings_with, texts_not_empty}
use Rattle.cdtext_packs.proofs.map.TextMap.of_strings.Goals as goal
use Rattle.cdtext_packs.proofs.map.TextMap.of_strings.Goals.{else-are_empty-via-then-are_empty+then-are_empty-2+then-are_empty-3+else-are_empty-4, else-are_empty-via-then-are_empty+then-are_empty-2+else-are_empty-3, else-are_empty-via-then-are_empty+else-are_empty-2, else-are_empty-via-else-are_empty}

pub returns-then-are_empty-4 : goal.returns-then-are_empty-4
returns-then-are_empty-4 c =
    c.empty.ensures
    ∙ sym (none_with c.args.first c.args.titles c.args.performers c.args.songwriters c.args.codes
    (sym c.are_empty.ensures ∙ c.if-are_empty.true)
    (sym c.are_empty-then-are_empty.ensures ∙ c.if-are_empty-2.true)
    (sym c.are_empty-then-are_empty-2.ensures ∙ c.if-are_empty-3.true)
    (sym c.are_empty-then-are_empty-3.ensures ∙ c.if-are_empty-4.true))

-- the number of strings of each kind
size : (c : goal.In_ok-message) → c.len-count.result ≡ length c.args.titles
size c =
    let inside : c.len-count.result ≡ length c.titles.inside.items.items = search rules in
    inside ∙ sym (length-map c.titles.inside.items.items (λ v. v.items)) ∙ ap length c.titles.view_is

pub invariant_of-result : goal.invariant_of-result
invariant_of-result c =
    strings_with c.args.first c.len-count.result _ _ _ _ _ _ _ _ c.requires.first c.requires.some
    c.requires.last
    (size c) c.requires.performers c.requires.songwriters c.requires.codes c.in_ok-composer.ensures.strings
    c.in_ok-arranger.ensures.strings c.in_ok-message.ensures.strings refl
    c.requires.strings.0 c.requires.strings.1 c.requires.strings.2 c.requires.strings.3

-- one of the kinds has a string that is not empty
some : (c : goal.In_ok-message)
    → has_no_text (texts_with c.args.first c.args.titles c.args.performers c.args.songwriters c.args.codes)
    ≡ false
some c =
    let texts = texts_with c.args.first c.args.titles c.args.performers c.args.songwriters c.args.codes in
    elim c.else-are_empty.branch [
      | else-are_empty-via-then-are_empty+then-are_empty-2+then-are_empty-3+else-are_empty-4 w ↦
          some_text texts 6 (omega arith) (sym w.are_empty-then-are_empty-3.ensures ∙ w.if-are_empty-4.false)
      | else-are_empty-via-then-are_empty+then-are_empty-2+else-are_empty-3 w ↦
          some_text texts 2 (omega arith) (sym w.are_empty-then-are_empty-2.ensures ∙ w.if-are_empty-3.false)
      | else-are_empty-via-then-are_empty+else-are_empty-2 w ↦
          some_text texts 1 (omega arith) (sym w.are_empty-then-are_empty.ensures ∙ w.if-are_empty-2.false)
      | else-are_empty-via-else-are_empty w ↦
          some_text texts 0 (omega arith) (sym c.are_empty.ensures ∙ w.if-are_empty.false)
    ]

pub returns : goal.returns
returns c =
    texts_not_empty c.args.first c.len-count.result _ _ _ _ _ _ _ _ (size c) refl
    c.in_ok-composer.ensures.strings c.in_ok-arranger.ensures.strings
    c.in_ok-message.ensures.strings (some c)

pub returns-in_err-composer : goal.returns-in_err-composer
returns-in_err-composer c =
    IfOk-from_err c.from_residual.result _ c.from_residual.ensures.0

pub returns-in_err-arranger : goal.returns-in_err-arranger
returns-in_err-arranger c =
    IfOk-from_err c.from_residual-in_err-arranger.result _ c.from_residual-in_err-arranger.ensures.0

pub returns-in_err-message : goal.returns-in_err-message
returns-in_err-message c =
    IfOk-from_err c.from_residual-in_err-message.result _ c.from_residual-in_err-message.ensures.0

pub overflow_sub-result : goal.overflow_sub-result
overflow_sub-result c = omega (arith, size c, c.requires.some)

pub overflow_cast-result : goal.overflow_cast-result
overflow_cast-result c = omega (arith, size c, c.requires.some)

pub overflow_add-result : goal.overflow_add-result
overflow_add-result c = omega (arith, size c, c.requires.last)
