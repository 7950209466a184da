use Rattle.std.proofs.Common.{rules}
use Rattle.bit_lists.proofs.Registers.{takes_byte}
use Rattle.bit_lists.proofs.check.with_byte.Goals as goal

pub returns : goal.returns
returns c = takes_byte c.args.register c.args.byte _ (search rules) (search rules) c.from.ensures
