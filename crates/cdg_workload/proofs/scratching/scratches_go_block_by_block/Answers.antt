use Rattle.std.proofs.Common.{refl}
use Rattle.cdg_workload.proofs.BlockByBlock.{next_block, gives_block}
use Rattle.cdg_workload.proofs.scratching.scratches_go_block_by_block.Goals as goal

pub returns-clause-start : goal.returns-clause-start
returns-clause-start c seed bytes = refl

pub returns-clause-next : goal.returns-clause-next
returns-clause-next c = next_block

pub returns-clause-gives : goal.returns-clause-gives
returns-clause-gives c = gives_block
