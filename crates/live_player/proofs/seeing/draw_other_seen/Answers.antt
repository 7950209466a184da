use Rattle.std.proofs.Common.{[], ◌∷◌, ap, ◌∙◌}
use Rattle.cdg_instructions.specs.declared.instr.Instr.{Instr}
use Rattle.cdg_screen.specs.Memory.{seen}
use Rattle.cdg_screen.specs.Standing.{standing_after}
use Rattle.live_player.specs.Changes.{sees}
use Rattle.live_player.proofs.seeing.draw_other_seen.Goals as goal

pub returns-clause-draws : goal.returns-clause-draws
returns-clause-draws c =
    c.obey.ensures
    ∙ ap (λ (i : Instr). standing_after (seen c.args.screen.now) (i ∷ []))
    c.read_pack-instr.ensures.instruction

pub returns-clause-sees : goal.returns-clause-sees
returns-clause-sees c = c.see.ensures ∙ ap (sees c.args.watch.now) c.read_pack-instr.ensures.instruction
