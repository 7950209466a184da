use Rattle.cdg_workload.proofs.BurstLaws.{differ, lead_in_stays, channels_stay}
use Rattle.cdg_workload.proofs.scratching.scratches_are_bursts.Goals as goal

pub returns-clause-bursts : goal.returns-clause-bursts
returns-clause-bursts c = differ

pub returns-clause-lead_in : goal.returns-clause-lead_in
returns-clause-lead_in c = lead_in_stays

pub returns-clause-channels : goal.returns-clause-channels
returns-clause-channels c = channels_stay
