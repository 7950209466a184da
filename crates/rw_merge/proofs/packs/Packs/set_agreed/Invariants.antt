use Rattle.std.proofs.Common.{◌≤◌, ◌*◌, length}
use Rattle.rw_merge.proofs.Words.{IsFoundTo}
use Rattle.rw_merge.proofs.packs.Packs.set_agreed.Given as goal

abbrev pub invariant-loop-i : goal.invariant-loop-i
invariant-loop-i l = record {
  size : length l.self.bytes ≤ 24 * l.i;
  few_bad : l.self.bad ≤ l.i;
  packs : IsFoundTo l.first l.second l.i l.self.bytes l.self.bad;
}
