use Rattle.cdg_workload.proofs.BlockRuns.{streams}
use Rattle.cdg_workload.proofs.scratching.scratch.Goals as goal

pub returns-clause-scratches : goal.returns-clause-scratches
returns-clause-scratches g c =
    let (taken, pumps) = c.pump_units.ensures.pumps in
    (taken, streams c.args.lead_in c.args.seed _ c.pump_units.result taken c.start-scratches.ensures pumps)
