use Rattle.std.proofs.Common.{◌≡◌, ◌≤◌, ◌*◌, length}
use Rattle.std.specs.Prelude.{sum_by}
use Rattle.bit_lists.specs.Counting.{below}
use Rattle.pack_schedule.specs.PlannedChange.{planned_change}
use Rattle.stream_trial.proofs.needs.count_changes.Given as goal

abbrev pub invariant-loop-k : goal.invariant-loop-k
invariant-loop-k l = record {
  sum : l.sum ≡ sum_by (λ k. length (planned_change l.script k)) (below l.k);
  small : l.sum ≤ 4294967295 * l.k;
}
