use Rattle.std.proofs.Common.{◌≡◌, ℕ, List, length}
use Rattle.cdg_io.specs.Pump.{RoseBy}
use Rattle.rw_merge.proofs.Working.{Works}
use Rattle.rw_merge.proofs.merge.Merger.merge_pairs.Given as goal

abbrev pub invariant-loop-block : goal.invariant-loop-block
invariant-loop-block g l = record {
  same : length l.self.first ≡ length l.self.second;
  works : (xs ys : List ℕ)
      × Works l.lead_in l.block (g.S.Source.left l.initial.first) (g.S.Source.left l.first)
      (g.T.Source.left l.initial.second) (g.T.Source.left l.second)
      (g.K.Sink.held l.initial.out) (g.K.Sink.held l.out) l.self.first l.self.second l.bad xs ys;
  no_first_fault : g.S.Source.faults l.first ≡ g.S.Source.faults l.initial.first;
  no_second_fault : g.T.Source.faults l.second ≡ g.T.Source.faults l.initial.second;
  no_write_fault : g.K.Sink.faults l.out ≡ g.K.Sink.faults l.initial.out;
  first_reported : g.S.Source.ends l.first ≡ g.S.Source.ends l.initial.first;
  second_reported : g.T.Source.ends l.second ≡ g.T.Source.ends l.initial.second;
  first_rooms : RoseBy l.block (g.S.Source.fills l.initial.first) (g.S.Source.fills l.first);
  second_rooms : RoseBy l.block (g.T.Source.fills l.initial.second) (g.T.Source.fills l.second);
}
