use Rattle.std.proofs.Common.{◌≡◌, ◌≤◌, ◌+◌, ◌*◌}
use Rattle.toc_model.specs.Places.{pregaps_to, postgaps_to}
use Rattle.toc_model.proofs.place.gaps.Given as goal

abbrev pub invariant-loop-k : goal.invariant-loop-k
invariant-loop-k l = record {
  sum : l.sum ≡ pregaps_to l.sheet l.k + postgaps_to l.sheet l.k;
  bound : l.sum ≤ 900000 * l.k;
}
