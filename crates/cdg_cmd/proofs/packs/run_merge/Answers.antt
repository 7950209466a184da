use Rattle.cdg_cmd.proofs.MergeReported.{never_memory, never_usage, reported}
use Rattle.cdg_cmd.proofs.packs.run_merge.Goals as goal

pub returns-clause-does : goal.returns-clause-does
returns-clause-does g c =
    let done = c.run.ensures in
    record {
      answer = c.run.result;
      status_is = c.merge_status.ensures;
      taken = done.merges.taken;
      other_taken = done.merges.other_taken;
      first = done.merges.took;
      second = done.merges.other_took;
      put = done.merges.said;
      first_end = done.first_end;
      second_end = done.second_end;
      exactly = done.answer;
    }

pub returns-clause-memory : goal.returns-clause-memory
returns-clause-memory g c = never_memory c.run.result _ c.merge_status.ensures

pub returns-clause-never : goal.returns-clause-never
returns-clause-never g c = never_usage c.run.result _ c.merge_status.ensures

pub returns-clause-faults : goal.returns-clause-faults
returns-clause-faults g c =
    let done = c.run.ensures in
    reported c.run.result _ _ _ _ _ _ _ c.merge_status.ensures done.first_fault done.second_fault
    done.write_fault

pub returns-clause-ended : goal.returns-clause-ended
returns-clause-ended g c =
    let all = c.run.ensures.merges in
    record {
      answer = c.run.result;
      status_is = c.merge_status.ensures;
      taken = all.taken;
      other_taken = all.other_taken;
      took = all.took;
      other_took = all.other_took;
      ended = all.ended;
    }
