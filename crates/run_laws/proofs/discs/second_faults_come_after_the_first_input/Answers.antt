use Rattle.std.proofs.Common.{subst, sym, ◌∙◌}
use Rattle.cdg_cmd.specs.Answer.{Does}
use Rattle.cdg_cmd.specs.declared.status.Status.{Status}
use Rattle.run_laws.proofs.SecondFaults.{read_first}
use Rattle.run_laws.proofs.discs.second_faults_come_after_the_first_input.Goals as goal

pub returns : goal.returns
returns c = λ command call status is reported.
    read_first command call (subst (λ (s : Status). Does command call s) reported
    (is.does (λ memory. absurd (let both = sym memory ∙ reported in cc))))
