use Rattle.std.proofs.Common.{refl, rules}
use Rattle.cdg_cmd.specs.declared.command.Command.TheVariants.{Save}
use Rattle.cdg_cmd.proofs.Commands.{made, none_made}
use Rattle.cdg_cmd.proofs.StreamWords.{of_save}
use Rattle.cdg_cmd.proofs.command.read_save.Goals as goal

pub returns-in_err-lead_in : goal.returns-in_err-lead_in
returns-in_err-lead_in c = (
  search rules,
  λ command spelled. let (lead_in, is, within, options) = of_save command _ _ refl spelled in
      absurd (none_made _ (c.in_err-lead_in.ensures.all lead_in within options)),
)

pub returns : goal.returns
returns c = let spelled = c.in_ok-lead_in.ensures.spelled in (
  (refl, spelled.0, spelled.1),
  λ command spelled. let (lead_in, is, within, options) = of_save command _ _ refl spelled in
      made Save _ _ command (c.in_ok-lead_in.ensures.all lead_in within options) is,
)
