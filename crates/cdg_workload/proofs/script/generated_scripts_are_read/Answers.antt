use Rattle.cdg_workload.proofs.Reading.{script_is_read}
use Rattle.cdg_workload.proofs.script.generated_scripts_are_read.Goals as goal

pub returns : goal.returns
returns c = script_is_read
