use Rattle.std.proofs.Common.{sym, ap, ap₂, ◌∙◌}
use Rattle.text_lines.specs.Text.{words_in, parsed_time}
use Rattle.picture_script.specs.ScriptGrammar.{show_of}
use Rattle.picture_script.proofs.WordCounts.{show_none, show_two}
use Rattle.picture_script.proofs.grammar.show_words.Goals as goal

pub returns-in_err-ready_word-clause-value : goal.returns-in_err-ready_word-clause-value
returns-in_err-ready_word-clause-value c =
    rw c.from_residual.ensures (show_none (words_in c.args.words.now) c.in_err-ready_word.ensures)

pub returns-in_err-ready-clause-value : goal.returns-in_err-ready-clause-value
returns-in_err-ready-clause-value c =
    let two =
    show_two (words_in c.args.words.now) c.in_ok-ready_word.ready_word.now c.in_ok-ready_word.hold_word.now
    c.in_ok-ready_word.ensures in
    rw c.from_residual-in_err-ready.ensures (two
    ∙ ap (λ o. show_of o (parsed_time c.in_ok-ready_word.hold_word.now)) (sym c.in_err-ready.ensures.value))

pub returns-in_err-hold-clause-value : goal.returns-in_err-hold-clause-value
returns-in_err-hold-clause-value c =
    let two =
    show_two (words_in c.args.words.now) c.in_ok-ready_word.ready_word.now c.in_ok-ready_word.hold_word.now
    c.in_ok-ready_word.ensures in
    rw c.from_residual-in_err-hold.ensures
    (two ∙ ap₂ show_of (sym c.in_ok-ready.ensures.value) (sym c.in_err-hold.ensures.value))

pub returns-clause-value : goal.returns-clause-value
returns-clause-value c =
    let two =
    show_two (words_in c.args.words.now) c.in_ok-ready_word.ready_word.now c.in_ok-ready_word.hold_word.now
    c.in_ok-ready_word.ensures in
    two ∙ ap₂ show_of (sym c.in_ok-ready.ensures.value) (sym c.in_ok-hold.ensures.value)
