use Rattle.std.proofs.Common.{◌≡◌, ◌++◌, drop, length}
use Rattle.disc_plan.proofs.Tracks.{rows_before}
use Rattle.disc_plan.proofs.index_rows.write_rows.Given as goal

abbrev pub invariant-loop-k : goal.invariant-loop-k
invariant-loop-k l = record {
  at : l.at ≡ length (rows_before l.sheet l.k);
  rows : l.rows ≡ rows_before l.sheet l.k ++ drop (length (rows_before l.sheet l.k)) l.initial.rows;
}
