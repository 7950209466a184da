use Rattle.cdg_screen.specs.Memory.{seen}
use Rattle.std.proofs.Common.{[], ◌∷◌, ap, ◌∙◌}
use Rattle.cdg_instructions.proofs.Meaning.{only_meaning}
use Rattle.cdg_screen.specs.Standing.{standing_after}
use Rattle.cdg_instructions.specs.declared.instr.Instr.{Instr}
use Rattle.stream_stages.proofs.painting.carry_out.Goals as goal

pub returns : goal.returns
returns c =
    c.obey.ensures
    ∙ ap (λ (i : Instr). standing_after (seen c.args.screen.now) (i ∷ []))
    (only_meaning c.args.pack.now c.read.result c.read.ensures.meaning)
