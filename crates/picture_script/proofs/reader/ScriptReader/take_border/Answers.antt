use Rattle.std.proofs.Common.{refl}
use Rattle.std.proofs.lemmas.Result.{err_from_is_err_and}
use Rattle.text_lines.specs.Text.{words_in}
use Rattle.picture_script.specs.Script.{Border}
use Rattle.picture_script.specs.ScriptGrammar.{border_line}
use Rattle.picture_script.proofs.Refusals.{in_range, border_taken, test_true}
use Rattle.picture_script.proofs.reader.ScriptReader.take_border.Goals as goal

pub returns : goal.returns
returns c = λ before read.
    let words = words_in c.args.words.now in
    let colour = c.in_ok-colour.colour in (
      Border colour,
      in_range before (border_line words) (Border colour)
          (border_taken words colour c.in_ok-colour.ensures.ok.0) refl
          (test_true colour 16 c.in_ok-colour.ensures.ok.1),
      c.take_drawing.ensures before read,
    )

pub returns-in_err-colour : goal.returns-in_err-colour
returns-in_err-colour c = λ before read.
    let p = err_from_is_err_and c.from_residual.result c.from_residual.ensures.1 in
    rw (p.1, p.2) (c.in_err-colour.ensures.border before)
