use Rattle.std.proofs.Common.{refl, rules}
use Rattle.cdg_cmd.specs.declared.command.Command.TheVariants.{Resume}
use Rattle.cdg_cmd.proofs.Commands.{made, none_made}
use Rattle.cdg_cmd.proofs.StreamWords.{of_resume}
use Rattle.cdg_cmd.proofs.command.read_resume.Goals as goal

pub returns-in_err-at : goal.returns-in_err-at
returns-in_err-at c = (
  search rules,
  λ command spelled. let (at, is, below, options) = of_resume command _ _ refl spelled in
      absurd (none_made _ (c.in_err-at.ensures.all at below options)),
)

pub returns : goal.returns
returns c = let spelled = c.in_ok-at.ensures.spelled in (
  (refl, spelled.0, spelled.1),
  λ command spelled. let (at, is, below, options) = of_resume command _ _ refl spelled in
      made Resume _ _ command (c.in_ok-at.ensures.all at below options) is,
)
