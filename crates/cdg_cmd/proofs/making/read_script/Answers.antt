use Rattle.cdg_cmd.specs.declared.status.Which.TheVariants.{Second}
use Rattle.cdg_cmd.specs.declared.status.Status.TheVariants.{NoMemory, ReadFault}
use Rattle.cdg_cmd.proofs.TextReads.{no_script, same_stop}
use Rattle.cdg_cmd.proofs.making.read_script.Goals as goal

pub returns-in-Err-clause-err : goal.returns-in-Err-clause-err
returns-in-Err-clause-err g c = no_script _ _ c.in-Err.ensures.err

pub returns-in-Err-clause-fault : goal.returns-in-Err-clause-fault
returns-in-Err-clause-fault g c = same_stop (ReadFault Second) _ _ _ c.in-Err.ensures.fault

pub returns-in-Err-clause-allocations : goal.returns-in-Err-clause-allocations
returns-in-Err-clause-allocations g c = same_stop NoMemory _ _ _ c.in-Err.ensures.allocations
