use Rattle.std.proofs.Common.{◌+◌, refl, sym, ap, ◌∙◌, map}
use Rattle.std.specs.Prelude.{◌&&◌, nat_le, nat_lt}
use Rattle.cdg_instructions.specs.Sizes.{window_height, window_width}
use Rattle.std.specs.Char.{digit_value}
use Rattle.std.proofs.lemmas.List.{length-map}
use Rattle.text_lines.specs.Text.{words_in}
use Rattle.picture_script.specs.Script.{Row}
use Rattle.picture_script.specs.ScriptGrammar.{row_line}
use Rattle.picture_script.proofs.Refusals.{bad_line, out_of_range, in_range}
use Rattle.picture_script.proofs.reader.ScriptReader.take_row.Goals as goal

pub returns-in_default : goal.returns-in_default
returns-in_default c = λ before read.
    bad_line before (row_line (words_in c.args.words.now)) c.in_default.ensures.value

pub returns-then-not-is_row : goal.returns-then-not-is_row
returns-then-not-is_row c = λ before read.
    let digits = c.in-Some.digits.now in
    let size =
    ap (λ n. nat_le (c.in-Some.x + n) window_width && nat_lt c.in-Some.y window_height)
    (length-map digits digit_value) in
    out_of_range before (row_line (words_in c.args.words.now))
    (Row c.in-Some.x c.in-Some.y (map digit_value digits)) c.in-Some.ensures.value refl
    (size ∙ sym c.is_row.ensures ∙ c.if-not-is_row.true)

pub returns : goal.returns
returns c = λ before read.
    let digits = c.in-Some.digits.now in
    let size =
    ap (λ n. nat_le (c.in-Some.x + n) window_width && nat_lt c.in-Some.y window_height)
    (length-map digits digit_value) in (
      Row c.in-Some.x c.in-Some.y (map digit_value digits),
      in_range before (row_line (words_in c.args.words.now))
          (Row c.in-Some.x c.in-Some.y (map digit_value digits)) c.in-Some.ensures.value refl
          (size ∙ sym c.is_row.ensures ∙ c.if-not-is_row.false),
      c.take_pixels.ensures before read,
    )
