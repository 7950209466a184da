use Rattle.std.proofs.Common.{refl, sym}
use Rattle.cdg_cmd.specs.declared.status.Status.TheVariants.{Usage}
use Rattle.cdg_cmd.proofs.Reported.{unchanged}
use Rattle.cdg_cmd.proofs.Commands.{no_command, same_command}
use Rattle.cdg_cmd.proofs.Performed.{performed_as}
use Rattle.cdg_cmd.proofs.Allocations as allocations
use Rattle.cdg_cmd.proofs.top.answer.Goals as goal

pub returns-in-Some-clause-usage : goal.returns-in-Some-clause-usage
returns-in-Some-clause-usage g c = (
  λ e command spelled. c.perform.ensures.never e,
  λ none. absurd (none c.in-Some.command c.in-Some.ensures.spelled),
)

pub returns-in-None-clause-usage : goal.returns-in-None-clause-usage
returns-in-None-clause-usage g c =
    (λ e command spelled. no_command command (c.in-None.ensures.all command spelled), λ none. refl)

pub returns-in-Some-clause-performs : goal.returns-in-Some-clause-performs
returns-in-Some-clause-performs g c = λ command spelled.
    performed_as (sym (same_command _ _ (c.in-Some.ensures.all command spelled))) c.perform.ensures.performs

pub returns-in-None-clause-performs : goal.returns-in-None-clause-performs
returns-in-None-clause-performs g c =
    λ command spelled. absurd (no_command command (c.in-None.ensures.all command spelled))

pub returns-in-None-clause-faults : goal.returns-in-None-clause-faults
returns-in-None-clause-faults g c = unchanged _ _ _

pub returns-in-None-clause-allocations : goal.returns-in-None-clause-allocations
returns-in-None-clause-allocations g c = allocations.takes_none Usage _ (λ e. cc)
