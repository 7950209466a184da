use Rattle.std.proofs.Common.{arith, ap, ◌∙◌, sym, ◌∷◌}
use Rattle.text_lines.specs.Text.{words_in}
use Rattle.text_lines.proofs.WordSteps.{no_words, more_words, word_is_some}
use Rattle.text_lines.proofs.next_word.Goals as goal

pub returns-then-is_empty-clause-words : goal.returns-then-is_empty-clause-words
returns-then-is_empty-clause-words c = no_words c.args.line.now _ c.trim_start-line.ensures.rest (grind arith)

pub returns-then-is_empty-clause-shorter : goal.returns-then-is_empty-clause-shorter
returns-then-is_empty-clause-shorter c =
    no_words c.args.line.now _ c.trim_start-line.ensures.rest (grind arith)

pub returns-clause-words : goal.returns-clause-words
returns-clause-words c =
    more_words c.args.line.now c.trim_start-line.result.now c.split_word.result.0.now
    c.trim_start-line.ensures.rest (grind arith) c.split_word.ensures.word
    ∙ ap (λ s. c.split_word.result.0.now ∷ words_in s) (sym c.split_word.ensures.rest)

pub returns-clause-shorter : goal.returns-clause-shorter
returns-clause-shorter c = (
  word_is_some c.args.line.now c.trim_start-line.result.now c.split_word.result.0.now
      c.trim_start-line.ensures.rest (grind arith) c.split_word.ensures.word,
  omega arith,
)
