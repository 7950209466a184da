use Rattle.cdg_workload.proofs.Times.{so_many, ready_at, hold_at}
use Rattle.cdg_workload.proofs.script.generated_scripts_have_times.Goals as goal

pub returns-clause-pictures : goal.returns-clause-pictures
returns-clause-pictures c = so_many

pub returns-clause-ready : goal.returns-clause-ready
returns-clause-ready c = ready_at

pub returns-clause-hold : goal.returns-clause-hold
returns-clause-hold c = hold_at
