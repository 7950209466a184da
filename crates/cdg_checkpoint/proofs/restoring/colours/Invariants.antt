use Rattle.std.proofs.Common.{◌≡◌, ◌<◌, ℕ, get_or, length}
use Rattle.cdg_checkpoint.specs.Table.{Colours, number}
use Rattle.cdg_checkpoint.proofs.restoring.colours.Given as goal

abbrev pub invariant-loop-k : goal.invariant-loop-k
invariant-loop-k l = record {
  size : length l.colours ≡ 16;
  set : (j : ℕ) → j < l.k → get_or l.colours j 0 ≡ number l.bytes Colours j;
  range : (j : ℕ) → get_or l.colours j 0 < 4096;
}
