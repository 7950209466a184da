use Rattle.std.proofs.Common.{sym, subst, ◌∙◌}
use Rattle.picture_script.specs.ScriptGrammar.{checked_words}
use Rattle.picture_script.specs.Reader.{Takes}
use Rattle.picture_script.proofs.Refusals.{step_passed, line_read}
use Rattle.picture_script.proofs.reader.ScriptReader.read_line.Goals as goal

pub returns-then-is_nothing : goal.returns-then-is_nothing
returns-then-is_nothing c = λ before read. (
  before,
  step_passed before c.args.line.now
      (sym (c.is_nothing.ensures c.args.line.now c.trim_start-rest.ensures.rest) ∙ c.if-is_nothing.true),
  read,
)

pub returns : goal.returns
returns c = λ before read.
    line_read before c.args.line.now c.take_line.new.self c.take_line.result
    (sym (c.is_nothing.ensures c.args.line.now c.trim_start-rest.ensures.rest) ∙ c.if-is_nothing.false)
    (subst (λ words. Takes before (checked_words before words) c.take_line.new.self c.take_line.result)
    c.trim_start-rest.ensures.words (c.take_line.ensures before read))
