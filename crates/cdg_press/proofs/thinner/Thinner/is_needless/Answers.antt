use Rattle.std.proofs.Common.{[], ◌∷◌, ◌∙◌, ap, sym}
use Rattle.cdg_instructions.specs.declared.instr.Instr.{Instr}
use Rattle.cdg_screen.specs.Standing.{standing_after}
use Rattle.cdg_press.specs.Steps.{is_needless, thin_next}
use Rattle.cdg_press.proofs.thinner.Thinner.is_needless.Goals as goal

pub returns-then-is_idle-clause-next : goal.returns-then-is_idle-clause-next
unfolding thin_next
returns-then-is_idle-clause-next c =
    let idle = c.is_idle.ensures c.if-is_idle.true in
    let stands =
    ap (λ (i : Instr). standing_after c.self.inside.screen (i ∷ [])) idle ∙ c.what_stands_is_whole.ensures in
    rw (← c.self.view_is) (sym stands)

pub returns-then-is_idle-clause-needless : goal.returns-then-is_idle-clause-needless
unfolding is_needless
returns-then-is_idle-clause-needless c =
    let idle = c.is_idle.ensures c.if-is_idle.true in
    sym (ap (λ (i : Instr). is_needless c.args.self.now i) idle)
