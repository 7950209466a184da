use Rattle.std.proofs.Common.{sym, ap, ap₂, ◌∙◌}
use Rattle.std.specs.Prelude.{Some}
use Rattle.text_lines.specs.Text.{words_in}
use Rattle.picture_script.specs.ScriptGrammar.{small_number, pixels_in, row_of}
use Rattle.picture_script.proofs.WordCounts.{row_none, row_three, pixels_some, pixels_none}
use Rattle.picture_script.proofs.grammar.row_words.Goals as goal

pub returns-in_err-x_word-clause-value : goal.returns-in_err-x_word-clause-value
returns-in_err-x_word-clause-value c =
    rw c.from_residual.ensures (row_none (words_in c.args.words.now) c.in_err-x_word.ensures)

pub returns-in_err-x-clause-value : goal.returns-in_err-x-clause-value
returns-in_err-x-clause-value c =
    let three =
    row_three (words_in c.args.words.now) c.in_ok-x_word.x_word.now c.in_ok-x_word.y_word.now
    c.in_ok-x_word.pixels.now c.in_ok-x_word.ensures in
    rw c.from_residual-in_err-x.ensures (three
    ∙ ap (λ o. row_of o (small_number c.in_ok-x_word.y_word.now) (pixels_in c.in_ok-x_word.pixels.now))
    (sym c.in_err-x.ensures.value))

pub returns-in_err-y-clause-value : goal.returns-in_err-y-clause-value
returns-in_err-y-clause-value c =
    let three =
    row_three (words_in c.args.words.now) c.in_ok-x_word.x_word.now c.in_ok-x_word.y_word.now
    c.in_ok-x_word.pixels.now c.in_ok-x_word.ensures in
    rw c.from_residual-in_err-y.ensures (three
    ∙ ap₂ (λ o p. row_of o p (pixels_in c.in_ok-x_word.pixels.now)) (sym c.in_ok-x.ensures.value)
    (sym c.in_err-y.ensures.value))

pub returns-then-not-is_pixels-clause-value : goal.returns-then-not-is_pixels-clause-value
returns-then-not-is_pixels-clause-value c =
    let three =
    row_three (words_in c.args.words.now) c.in_ok-x_word.x_word.now c.in_ok-x_word.y_word.now
    c.in_ok-x_word.pixels.now c.in_ok-x_word.ensures in
    three
    ∙ ap₂ (λ o p. row_of o p (pixels_in c.in_ok-x_word.pixels.now)) (sym c.in_ok-x.ensures.value)
    (sym c.in_ok-y.ensures.value)
    ∙ ap (row_of (Some c.in_ok-x.x) (Some c.in_ok-y.y))
    (pixels_none c.in_ok-x_word.pixels.now (sym c.is_pixels.ensures ∙ c.if-not-is_pixels.true))

pub returns-clause-value : goal.returns-clause-value
returns-clause-value c =
    let three =
    row_three (words_in c.args.words.now) c.in_ok-x_word.x_word.now c.in_ok-x_word.y_word.now
    c.in_ok-x_word.pixels.now c.in_ok-x_word.ensures in
    three
    ∙ ap₂ (λ o p. row_of o p (pixels_in c.in_ok-x_word.pixels.now)) (sym c.in_ok-x.ensures.value)
    (sym c.in_ok-y.ensures.value)
    ∙ ap (row_of (Some c.in_ok-x.x) (Some c.in_ok-y.y))
    (pixels_some c.in_ok-x_word.pixels.now (sym c.is_pixels.ensures ∙ c.if-not-is_pixels.false))
