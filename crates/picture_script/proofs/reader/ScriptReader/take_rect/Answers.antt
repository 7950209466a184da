use Rattle.std.proofs.Common.{refl, sym, ◌∙◌}
use Rattle.std.specs.Prelude.{slice_index}
use Rattle.text_lines.specs.Text.{words_in}
use Rattle.picture_script.specs.Script.{Rect}
use Rattle.picture_script.specs.ScriptGrammar.{rect_line}
use Rattle.picture_script.proofs.RectRange.{rect_kept}
use Rattle.picture_script.proofs.Refusals.{bad_line, out_of_range, in_range, five_rect, no_rect}
use Rattle.picture_script.proofs.reader.ScriptReader.take_rect.Goals as goal

pub returns-in_default : goal.returns-in_default
returns-in_default c = λ before read.
    bad_line before (rect_line (words_in c.args.words.now))
    (no_rect (words_in c.args.words.now) c.in_default.ensures.value)

pub returns-then-not-is_rect : goal.returns-then-not-is_rect
returns-then-not-is_rect c = λ before read.
    let words = words_in c.args.words.now in
    let numbers = c.in-Some.numbers in
    out_of_range before (rect_line words) (Rect (slice_index numbers 0)
    (slice_index numbers 1) (slice_index numbers 2) (slice_index numbers 3) (slice_index numbers 4))
    (five_rect words numbers c.in-Some.ensures.value c.in-Some.ensures.count) refl
    (sym c.is_rect.ensures ∙ c.if-not-is_rect.true)

pub returns : goal.returns
returns c = λ before read.
    let words = words_in c.args.words.now in
    let numbers = c.in-Some.numbers in (
      Rect (slice_index numbers 0) (slice_index numbers 1) (slice_index numbers 2) (slice_index numbers 3)
          (slice_index numbers 4),
      in_range before (rect_line words) (Rect (slice_index numbers 0)
          (slice_index numbers 1) (slice_index numbers 2) (slice_index numbers 3) (slice_index numbers 4))
          (five_rect words numbers c.in-Some.ensures.value c.in-Some.ensures.count) refl
          (sym c.is_rect.ensures ∙ c.if-not-is_rect.false),
      c.take_drawing.ensures before read,
    )

pub take_drawing-requires : goal.take_drawing-requires
take_drawing-requires c =
    let numbers = c.in-Some.numbers in
    let kept =
    rect_kept (slice_index numbers 0) (slice_index numbers 1) (slice_index numbers 2) (slice_index numbers 3)
    (slice_index numbers 4) (sym c.is_rect.ensures ∙ c.if-not-is_rect.false) in
    record { read = c.requires; kept = λ size. kept; draws = refl; alone = λ pixels. refl }
