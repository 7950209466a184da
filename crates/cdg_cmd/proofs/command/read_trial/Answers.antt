use Rattle.std.proofs.Common.{refl, rules}
use Rattle.cdg_cmd.specs.declared.command.Command.TheVariants.{Trial}
use Rattle.cdg_cmd.proofs.Commands.{made, none_made}
use Rattle.cdg_cmd.proofs.StreamWords.{of_trial}
use Rattle.cdg_cmd.proofs.command.read_trial.Goals as goal

pub returns-in_err-seed : goal.returns-in_err-seed
returns-in_err-seed c = (
  search rules,
  λ command spelled.
      let (seed, pictures, is, below, some, few, options) = of_trial command _ _ refl spelled in
      absurd (none_made _ (c.in_err-seed.ensures.all seed pictures below some few options)),
)

pub returns : goal.returns
returns c = let spelled = c.in_ok-seed.ensures.spelled in (
  (refl, (spelled.0, spelled.1, spelled.2), spelled.3),
  λ command spelled.
      let (seed, pictures, is, below, some, few, options) = of_trial command _ _ refl spelled in
      made (λ o. Trial o.seed o.pictures) _ _ command
      (c.in_ok-seed.ensures.all seed pictures below some few options) is,
)
