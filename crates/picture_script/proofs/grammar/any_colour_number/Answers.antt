use Rattle.std.proofs.Common.{refl, arith}
use Rattle.std.specs.Prelude.{slice_index}
use Rattle.text_lines.specs.Text.{words_in}
use Rattle.picture_script.specs.Script.{Border, Fill}
use Rattle.picture_script.specs.ScriptGrammar.{border_line, fill_line}
use Rattle.picture_script.proofs.Refusals.{bad_line, out_of_range, one_border, one_fill, one_number, no_border, no_fill, test_false}
use Rattle.picture_script.proofs.grammar.any_colour_number.Goals as goal

pub returns-in_default-clause-border : goal.returns-in_default-clause-border
returns-in_default-clause-border c =
    λ before. bad_line before _ (no_border (words_in c.args.words.now) c.in_default.ensures.value)

pub returns-in_default-clause-fill : goal.returns-in_default-clause-fill
returns-in_default-clause-fill c =
    λ before. bad_line before _ (no_fill (words_in c.args.words.now) c.in_default.ensures.value)

pub returns-then-from-ge-COLOURS-clause-border : goal.returns-then-from-ge-COLOURS-clause-border
returns-then-from-ge-COLOURS-clause-border c = λ before.
    let words = words_in c.args.words.now in
    let numbers = c.in-Some.numbers in
    out_of_range before (border_line words) (Border (slice_index numbers 0))
    (one_border words numbers c.in-Some.ensures.value c.in-Some.ensures.count) refl
    (test_false (slice_index numbers 0) 16 (omega (arith, c.from.ensures)))

pub returns-then-from-ge-COLOURS-clause-fill : goal.returns-then-from-ge-COLOURS-clause-fill
returns-then-from-ge-COLOURS-clause-fill c = λ before.
    let words = words_in c.args.words.now in
    let numbers = c.in-Some.numbers in
    out_of_range before (fill_line words) (Fill (slice_index numbers 0))
    (one_fill words numbers c.in-Some.ensures.value c.in-Some.ensures.count) refl
    (test_false (slice_index numbers 0) 16 (omega (arith, c.from.ensures)))

pub returns-clause-ok : goal.returns-clause-ok
returns-clause-ok c = (
  one_number (words_in c.args.words.now) c.in-Some.numbers c.in-Some.ensures.value c.in-Some.ensures.count,
  omega (arith, c.from.ensures),
)
