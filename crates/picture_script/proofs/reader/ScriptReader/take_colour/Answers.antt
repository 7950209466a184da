use Rattle.std.proofs.Common.{refl, arith}
use Rattle.text_lines.specs.Text.{words_in}
use Rattle.picture_script.specs.Script.{Colour}
use Rattle.picture_script.specs.ScriptGrammar.{colour_line}
use Rattle.picture_script.proofs.Refusals.{bad_line, out_of_range, in_range, test_true, test_false}
use Rattle.picture_script.proofs.reader.ScriptReader.take_colour.Goals as goal

pub returns-in_default : goal.returns-in_default
returns-in_default c = λ before read.
    bad_line before (colour_line (words_in c.args.words.now)) c.in_default.ensures.value

pub returns-then-from-ge-COLOURS : goal.returns-then-from-ge-COLOURS
returns-then-from-ge-COLOURS c = λ before read.
    out_of_range before (colour_line (words_in c.args.words.now))
    (Colour c.in-Some.number c.in-Some.value) c.in-Some.ensures.value refl
    (test_false c.in-Some.number 16 (omega (arith, c.from.ensures)))

pub returns : goal.returns
returns c = λ before read. (
  Colour c.in-Some.number c.in-Some.value,
  in_range before (colour_line (words_in c.args.words.now))
      (Colour c.in-Some.number c.in-Some.value) c.in-Some.ensures.value refl
      (test_true c.in-Some.number 16 (omega (arith, c.from.ensures))),
  c.take_drawing.ensures before read,
)
