use Rattle.std.proofs.Common.{arith, ◌-◌, sym, ap, ◌∙◌, refl, reverse}
use Rattle.text_lines.specs.Text.{trimmed, without_blanks}
use Rattle.text_lines.proofs.WordSteps.{trim_back, trim_stop, trim_nothing}
use Rattle.text_lines.proofs.trim.Goals as goal
use Rattle.text_lines.proofs.trim.Goals.{then-loop-end-test+else-is_blank, else-loop-end-test}

pub loop-end-preserved : goal.loop-end-preserved
loop-end-preserved c = record {
  same =
      trim_back c.trim_start-rest.result.now (c.loop-end.end - 1) c.loop-end.end _ (omega arith)
      c.loop-end.invariant.within refl (sym c.is_blank.ensures ∙ c.if-is_blank.true)
      c.loop-end.invariant.same;
  within = omega arith;
}

pub returns-clause-rest : goal.returns-clause-rest
unfolding trimmed
returns-clause-rest c =
    elim c.loop-end-test.branch [
      | then-loop-end-test+else-is_blank w ↦
          trim_stop c.trim_start-rest.result.now (c.loop-end.end - 1) c.loop-end.end _ (omega arith)
          c.loop-end.invariant.within refl (sym w.is_blank.ensures ∙ w.if-is_blank.false)
          c.loop-end.invariant.same
      | else-loop-end-test w ↦
          trim_nothing c.trim_start-rest.result.now c.loop-end.end (omega arith) c.loop-end.invariant.same
    ]
    ∙ ap (λ r. reverse (without_blanks (reverse r))) c.trim_start-rest.ensures.rest
