use Rattle.std.proofs.Common.{sym, ap, ap₂, ◌∙◌}
use Rattle.text_lines.specs.Text.{words_in}
use Rattle.picture_script.specs.ScriptGrammar.{colour_in, colour_of}
use Rattle.picture_script.proofs.WordCounts.{colour_none, colour_two}
use Rattle.picture_script.proofs.grammar.colour_words.Goals as goal

pub returns-in_err-number_word-clause-value : goal.returns-in_err-number_word-clause-value
returns-in_err-number_word-clause-value c =
    rw c.from_residual.ensures (colour_none (words_in c.args.words.now) c.in_err-number_word.ensures)

pub returns-in_err-number-clause-value : goal.returns-in_err-number-clause-value
returns-in_err-number-clause-value c =
    let two =
    colour_two (words_in c.args.words.now) c.in_ok-number_word.number_word.now
    c.in_ok-number_word.colour_word.now c.in_ok-number_word.ensures in
    rw c.from_residual-in_err-number.ensures (two
    ∙ ap (λ o. colour_of o (colour_in c.in_ok-number_word.colour_word.now))
    (sym c.in_err-number.ensures.value))

pub returns-in_err-value-clause-value : goal.returns-in_err-value-clause-value
returns-in_err-value-clause-value c =
    let two =
    colour_two (words_in c.args.words.now) c.in_ok-number_word.number_word.now
    c.in_ok-number_word.colour_word.now c.in_ok-number_word.ensures in
    rw c.from_residual-in_err-value.ensures
    (two ∙ ap₂ colour_of (sym c.in_ok-number.ensures.value) (sym c.in_err-value.ensures.value))

pub returns-clause-value : goal.returns-clause-value
returns-clause-value c =
    let two =
    colour_two (words_in c.args.words.now) c.in_ok-number_word.number_word.now
    c.in_ok-number_word.colour_word.now c.in_ok-number_word.ensures in
    two ∙ ap₂ colour_of (sym c.in_ok-number.ensures.value) (sym c.in_ok-value.ensures.value)
