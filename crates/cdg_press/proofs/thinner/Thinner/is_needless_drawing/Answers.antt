use Rattle.std.proofs.Common.{[], ◌∷◌, ◌∙◌, ap}
use Rattle.cdg_instructions.specs.declared.instr.Instr.{Instr}
use Rattle.cdg_screen.specs.Standing.{standing_after}
use Rattle.cdg_press.specs.Steps.{thin_next}
use Rattle.cdg_press.proofs.thinner.Thinner.is_needless_drawing.Goals as goal

pub returns-clause-next : goal.returns-clause-next
unfolding thin_next
returns-clause-next c =
    c.passes_over.ensures.next
    ∙ ap (λ (i : Instr). standing_after c.args.self.now (i ∷ [])) c.instruction.ensures.meaning
