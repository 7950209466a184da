use Rattle.cdg_workload.proofs.Lengths.{script_short}
use Rattle.cdg_workload.proofs.script.generated_scripts_are_short.Goals as goal

pub returns : goal.returns
returns c = script_short
