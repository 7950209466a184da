use Rattle.std.proofs.Common.{ap, sym, ◌∙◌, List, ℕ}
use Rattle.std.specs.Str.{bytes_eq}
use Rattle.picture_script.proofs.ShowNumbers.{first_word_shows, passed_shows_none}
use Rattle.picture_script.proofs.show_lines.is_show_line.Goals as goal

pub returns-then-is_passed_over : goal.returns-then-is_passed_over
returns-then-is_passed_over c =
    sym (passed_shows_none c.args.line.now (sym c.is_passed_over.ensures ∙ c.if-is_passed_over.true))

pub returns-in-Some : goal.returns-in-Some
returns-in-Some c =
    c.eq.ensures ∙ ap (λ (text : List ℕ). bytes_eq c.in-Some.command.now text) c.as_slice.ensures
    ∙ sym (first_word_shows c.args.line.now _ (sym c.is_passed_over.ensures ∙ c.if-is_passed_over.false)
    c.in-Some.ensures.words)

pub returns-in-None : goal.returns-in-None
returns-in-None c =
    sym (first_word_shows c.args.line.now _ (sym c.is_passed_over.ensures ∙ c.if-is_passed_over.false)
    c.in-None.ensures.words)
