use Rattle.cdg_workload.proofs.DamageLaws.{damaged}
use Rattle.cdg_workload.proofs.scratching.scratches_are_damage.Goals as goal

pub returns : goal.returns
returns c = damaged c.bursts_are_damage.ensures.raw
