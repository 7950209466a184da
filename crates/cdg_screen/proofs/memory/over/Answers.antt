use Rattle.std.proofs.Common.{arith}
use Rattle.std.proofs.lemmas.Nat.{xor_lt}
use Rattle.cdg_screen.proofs.memory.over.Goals as goal

pub returns-then-exclusive-clause-range : goal.returns-then-exclusive-clause-range
returns-then-exclusive-clause-range c = xor_lt 4 c.args.colour c.args.old (omega arith) (omega arith)
