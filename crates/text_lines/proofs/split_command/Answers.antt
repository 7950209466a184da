use Rattle.std.proofs.Common.{ap, ◌∙◌, drop, length}
use Rattle.text_lines.specs.Text.{argument_of, without_blanks}
use Rattle.text_lines.proofs.split_command.Goals as goal

pub returns-clause-argument : goal.returns-clause-argument
unfolding argument_of
returns-clause-argument c =
    c.trim_start.ensures.rest
    ∙ ap without_blanks
    (c.split_word.ensures.rest ∙ ap (λ w. drop (length w) c.args.line.now) c.split_word.ensures.word)
