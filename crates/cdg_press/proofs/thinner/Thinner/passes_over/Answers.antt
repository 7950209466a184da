use Rattle.std.proofs.Common.{◌∙◌, sym, true≢false}
use Rattle.cdg_press.proofs.Sameness.{needless_as_graphic, not_needless}
use Rattle.cdg_press.proofs.thinner.Thinner.passes_over.Goals as goal

pub returns-then-changes-clause-needless : goal.returns-then-changes-clause-needless
returns-then-changes-clause-needless c =
    rw (← c.self.view_is) (sym
    (not_needless c.self.inside.screen c.args.instr.now (λ same. c.changes.ensures.1 same c.if-changes.true)))

pub returns-clause-next : goal.returns-clause-next
returns-clause-next c =
    rw (← c.self.view_is) (sym (c.changes.ensures.0 (λ holds. true≢false (sym holds ∙ c.if-changes.false))))

pub returns-clause-needless : goal.returns-clause-needless
returns-clause-needless c =
    rw (← c.self.view_is)
    (c.is_graphic.ensures
    ∙ sym (needless_as_graphic c.self.inside.screen c.args.instr.now
    (c.changes.ensures.0 (λ holds. true≢false (sym holds ∙ c.if-changes.false)))))

pub returns-then-changes-clause-next : goal.returns-then-changes-clause-next
returns-then-changes-clause-next c = rw (← c.self.view_is) c.obey.ensures
