use Rattle.std.proofs.Common.{[], sym, ap, ◌∙◌, arith}
use Rattle.text_lines.specs.Text.{lines_in}
use Rattle.picture_script.specs.ScriptGrammar.{checked_lines}
use Rattle.picture_script.proofs.Refusals.{reading_begins, reading_ends, one_taken, one_refused}
use Rattle.picture_script.proofs.Counted.{made, not_made}
use Rattle.picture_script.proofs.script.Script.parse.Goals as goal

pub loop-line-init : goal.loop-line-init
loop-line-init c = (
  (
    [],
    c.new-reader.ensures,
    ap (λ rest. checked_lines 1 [] (lines_in rest)) c.without_mark-rest.ensures.rest
        ∙ reading_begins c.args.text.now,
  ),
  omega (arith, c.without_mark-rest.ensures.length),
)

pub loop-line-preserved : goal.loop-line-preserved
loop-line-preserved c =
    let before = c.loop-line.invariant.0.0 in
    let read = c.in_default-read_line.ensures before c.loop-line.invariant.0.1 in (
      (
        read.0,
        read.2,
        sym
            (one_taken c.loop-line.number before read.0 c.in-Some.line.now (lines_in c.in-Some.after.now)
            read.1)
            ∙ ap (checked_lines c.loop-line.number before) (sym c.in-Some.ensures.lines)
            ∙ c.loop-line.invariant.0.2,
      ),
      omega (arith, c.loop-line.invariant.1, c.in-Some.ensures.ends),
    )

pub returns-in-Err-clause-err : goal.returns-in-Err-clause-err
returns-in-Err-clause-err c =
    let before = c.loop-line.invariant.0.0 in
    sym c.loop-line.invariant.0.2
    ∙ ap (checked_lines c.loop-line.number before) c.in-Some.ensures.lines
    ∙ one_refused c.loop-line.number before c.in-Some.line.now (lines_in c.in-Some.after.now) c.in-Err.why
    (c.in-Err.ensures before c.loop-line.invariant.0.1)

pub returns-clause-ok : goal.returns-clause-ok
returns-clause-ok c =
    let before = c.loop-line.invariant.0.0 in
    made c.finish.result _ before (sym c.loop-line.invariant.0.2
    ∙ reading_ends c.loop-line.number before (lines_in c.loop-line.rest.now) c.in_default.ensures.lines)
    (c.finish.ensures.ok before c.loop-line.invariant.0.1)

pub returns-clause-err : goal.returns-clause-err
returns-clause-err c =
    let before = c.loop-line.invariant.0.0 in
    not_made c.finish.result _ before (sym c.loop-line.invariant.0.2
    ∙ reading_ends c.loop-line.number before (lines_in c.loop-line.rest.now) c.in_default.ensures.lines)
    c.finish.ensures.err
