use Rattle.std.proofs.Common.{◌≡◌, ◌<◌, ℕ, get_or, length}
use Rattle.cdg_checkpoint.specs.Table.{Levels, number}
use Rattle.cdg_checkpoint.proofs.restoring.levels.Given as goal

abbrev pub invariant-loop-k : goal.invariant-loop-k
invariant-loop-k l = record {
  size : length l.levels ≡ 16;
  set : (j : ℕ) → j < l.k → get_or l.levels j 0 ≡ number l.bytes Levels j;
  range : (j : ℕ) → get_or l.levels j 0 < 64;
}
