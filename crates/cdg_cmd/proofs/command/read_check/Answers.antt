use Rattle.std.proofs.Common.{refl, rules}
use Rattle.cdg_cmd.specs.declared.command.Command.TheVariants.{Check}
use Rattle.cdg_cmd.proofs.Commands.{made, none_made}
use Rattle.cdg_cmd.proofs.StreamWords.{of_check}
use Rattle.cdg_cmd.proofs.command.read_check.Goals as goal

pub returns-in_err-lead_in : goal.returns-in_err-lead_in
returns-in_err-lead_in c = (
  search rules,
  λ command spelled. let (lead_in, form, is, within, options) = of_check command _ _ refl spelled in
      absurd (none_made _ (c.in_err-lead_in.ensures.all lead_in form within options)),
)

pub returns : goal.returns
returns c = let spelled = c.in_ok-lead_in.ensures.spelled in (
  (refl, spelled.0, spelled.1),
  λ command spelled. let (lead_in, form, is, within, options) = of_check command _ _ refl spelled in
      made (λ o. Check o.lead_in o.form) _ _ command (c.in_ok-lead_in.ensures.all lead_in form within options)
      is,
)
