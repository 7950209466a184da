use Rattle.std.proofs.Common.{true, false, ◌∙◌, arith}
use Rattle.std.proofs.lemmas.List.{get_or-replicate}
use Rattle.picture_script.proofs.Parts.{column_more}
use Rattle.picture_script.proofs.canvas.Window.equal_columns.Goals as goal

pub loop-j-init : goal.loop-j-init
loop-j-init c x lt = (
  (λ reported m m_lt. absurd (omega (arith, m_lt))),
  (λ all. get_or-replicate 288 x true false lt),
)

pub loop-j-preserved : goal.loop-j-preserved
loop-j-preserved c =
    column_more c.args.self.now c.args.other.now c.deref.result.now c.deref-in-loop-j.result.now c.args.start
    c.loop-j.j c.loop-j.equal c.compare_line.new.equal (c.deref.ensures.value ∙ c.self.view_is)
    (c.deref-in-loop-j.ensures.value ∙ c.other.view_is) c.loop-j.invariant c.compare_line.ensures
