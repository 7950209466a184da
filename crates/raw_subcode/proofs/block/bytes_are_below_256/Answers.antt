use Rattle.std.proofs.Common.{arith}
use Rattle.bit_lists.proofs.Groups.{all_below_bound}
use Rattle.raw_subcode.proofs.block.bytes_are_below_256.Goals as goal

pub returns : goal.returns
returns c = all_below_bound 256 c.args.bytes.now (λ i. omega (arith, c.type_inv.bytes i))
