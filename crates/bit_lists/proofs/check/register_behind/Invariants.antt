use Rattle.std.proofs.Common.{◌*◌}
use Rattle.bit_lists.proofs.Registers.{GoesOn}
use Rattle.bit_lists.proofs.check.register_behind.Given as goal

abbrev pub invariant-loop-k : goal.invariant-loop-k
invariant-loop-k l = GoesOn l.begun l.bytes (2 * l.k) l.register
