use Rattle.std.proofs.Common.{◌≡◌, ◌≤◌, ◌*◌, length}
use Rattle.disc_plan.proofs.Tracks.{rows_before}
use Rattle.disc_plan.proofs.index_rows.count_rows.Given as goal

abbrev pub invariant-loop-k : goal.invariant-loop-k
invariant-loop-k l = record {
  count : l.count ≡ length (rows_before l.sheet l.k);
  few : l.count ≤ 100 * l.k;
}
