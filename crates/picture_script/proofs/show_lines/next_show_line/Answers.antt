use Rattle.std.proofs.Common.{sym, ◌∙◌, arith}
use Rattle.text_lines.specs.Text.{lines_in}
use Rattle.picture_script.proofs.ShowNumbers.{found_at, none_left, passed_on}
use Rattle.picture_script.proofs.show_lines.next_show_line.Goals as goal

pub returns-then-is_show_line-clause-found : goal.returns-then-is_show_line-clause-found
returns-then-is_show_line-clause-found c =
    c.loop-line.invariant.0
    ∙ found_at c.loop-line.number (lines_in c.loop-line.rest.now) (lines_in c.in-Some.after.now)
    c.in-Some.line.now c.in-Some.ensures.lines (sym c.is_show_line.ensures ∙ c.if-is_show_line.true)

pub loop-line-preserved : goal.loop-line-preserved
loop-line-preserved c = (
  c.loop-line.invariant.0
      ∙ passed_on c.loop-line.number (lines_in c.loop-line.rest.now) (lines_in c.in-Some.after.now)
      c.in-Some.line.now c.in-Some.ensures.lines (sym c.is_show_line.ensures ∙ c.if-is_show_line.false),
  omega (arith, c.loop-line.invariant.1, c.in-Some.ensures.ends),
)

pub returns-clause-found : goal.returns-clause-found
returns-clause-found c =
    c.loop-line.invariant.0
    ∙ none_left c.loop-line.number (lines_in c.loop-line.rest.now) c.in_default.ensures.lines
