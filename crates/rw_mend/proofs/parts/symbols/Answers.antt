use Rattle.std.proofs.Common.{arith}
use Rattle.rw_mend.proofs.Bytes.{completed_is}
use Rattle.rw_mend.proofs.parts.symbols.Goals as goal

pub returns : goal.returns
returns c =
    completed_is c.args.known.now c.args.block.now c.loop-k.symbols c.loop-k.invariant.size
    (λ k lt. c.loop-k.invariant.each k (omega (arith, lt, c.loop-k-test.false)))
