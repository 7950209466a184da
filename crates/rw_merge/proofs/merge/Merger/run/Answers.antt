use Rattle.rw_merge.proofs.Faults.{first_counted, second_counted, out_counted}
use Rattle.rw_merge.proofs.Restoring.{repaired, restored}
use Rattle.rw_merge.proofs.merge.Merger.run.Goals as goal

pub returns-clause-restores : goal.returns-clause-restores
returns-clause-restores g c =
    let done = c.merge_pairs.ensures in
    let all = done.merges in
    restored c.two_readings_give_packs.ensures.text c.args.lead_in _ _ _ _ _ _ c.merge_pairs.result all.taken
    all.other_taken all.took all.other_took all.said done.at_ends.0 done.at_ends.1 done.answer

pub returns-clause-repairs : goal.returns-clause-repairs
returns-clause-repairs g c =
    let done = c.merge_pairs.ensures in
    let all = done.merges in
    repaired c.two_readings_give_packs.ensures.damage c.args.lead_in _ _ _ _ c.merge_pairs.result
    (restored c.two_readings_give_packs.ensures.text c.args.lead_in _ _ _ _ _ _ c.merge_pairs.result all.taken
    all.other_taken all.took all.other_took all.said done.at_ends.0 done.at_ends.1 done.answer)

pub returns-clause-first_end : goal.returns-clause-first_end
returns-clause-first_end g c = c.merge_pairs.ensures.at_ends.0

pub returns-clause-second_end : goal.returns-clause-second_end
returns-clause-second_end g c = c.merge_pairs.ensures.at_ends.1

pub returns-clause-first_fault : goal.returns-clause-first_fault
returns-clause-first_fault g c = record {
  later = (first_counted c.merge_pairs.result _ _ _ c.merge_pairs.ensures.faults).later;
  rose = (first_counted c.merge_pairs.result _ _ _ c.merge_pairs.ensures.faults).fault;
  same = (first_counted c.merge_pairs.result _ _ _ c.merge_pairs.ensures.faults).no_fault;
}

pub returns-clause-second_fault : goal.returns-clause-second_fault
returns-clause-second_fault g c = record {
  later = (second_counted c.merge_pairs.result _ _ _ c.merge_pairs.ensures.faults).later;
  rose = (second_counted c.merge_pairs.result _ _ _ c.merge_pairs.ensures.faults).fault;
  same = (second_counted c.merge_pairs.result _ _ _ c.merge_pairs.ensures.faults).no_fault;
}

pub returns-clause-write_fault : goal.returns-clause-write_fault
returns-clause-write_fault g c = record {
  later = (out_counted c.merge_pairs.result _ _ _ c.merge_pairs.ensures.faults).later;
  rose = (out_counted c.merge_pairs.result _ _ _ c.merge_pairs.ensures.faults).fault;
  same = (out_counted c.merge_pairs.result _ _ _ c.merge_pairs.ensures.faults).no_fault;
}
