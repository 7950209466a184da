use Rattle.std.proofs.Common.{◌<◌, ℕ}
use Rattle.cdg_checkpoint.specs.Table.{Colours, number}
use Rattle.cdg_checkpoint.proofs.checking.check_colours.Given as goal

abbrev pub invariant-loop-k : goal.invariant-loop-k
invariant-loop-k l = (j : ℕ) → j < l.k → number l.bytes Colours j < 4096
