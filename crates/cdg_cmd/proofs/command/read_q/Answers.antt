use Rattle.std.proofs.Common.{refl, rules}
use Rattle.cdg_cmd.specs.declared.command.Command.TheVariants.{Q}
use Rattle.cdg_cmd.proofs.Commands.{made, none_made}
use Rattle.cdg_cmd.proofs.StreamWords.{of_q}
use Rattle.cdg_cmd.proofs.command.read_q.Goals as goal

pub returns-in_err-lead_in : goal.returns-in_err-lead_in
returns-in_err-lead_in c = (
  search rules,
  λ command spelled. let (lead_in, form, is, within, blocks, options) = of_q command _ _ refl spelled in
      absurd (none_made _ (c.in_err-lead_in.ensures.all lead_in form within blocks options)),
)

pub returns : goal.returns
returns c = let spelled = c.in_ok-lead_in.ensures.spelled in (
  (refl, (spelled.0, spelled.1), spelled.2),
  λ command spelled. let (lead_in, form, is, within, blocks, options) = of_q command _ _ refl spelled in
      made (λ o. Q o.lead_in o.form) _ _ command
      (c.in_ok-lead_in.ensures.all lead_in form within blocks options) is,
)
