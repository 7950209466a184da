use Rattle.std.proofs.Common.{refl, rules}
use Rattle.cdg_cmd.specs.declared.command.Command.TheVariants.{Scratch}
use Rattle.cdg_cmd.proofs.Commands.{made, none_made}
use Rattle.cdg_cmd.proofs.StreamWords.{of_scratch}
use Rattle.cdg_cmd.proofs.command.read_scratch.Goals as goal

pub returns-in_err-lead_in : goal.returns-in_err-lead_in
returns-in_err-lead_in c = (
  search rules,
  λ command spelled. let (lead_in, seed, is, within, below, options) = of_scratch command _ _ refl spelled in
      absurd (none_made _ (c.in_err-lead_in.ensures.all lead_in seed within below options)),
)

pub returns : goal.returns
returns c = let spelled = c.in_ok-lead_in.ensures.spelled in (
  (refl, (spelled.0, spelled.1), spelled.2),
  λ command spelled. let (lead_in, seed, is, within, below, options) = of_scratch command _ _ refl spelled in
      made (λ o. Scratch o.lead_in o.seed) _ _ command
      (c.in_ok-lead_in.ensures.all lead_in seed within below options) is,
)
