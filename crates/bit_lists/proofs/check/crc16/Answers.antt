use Rattle.std.proofs.Common.{[], rules}
use Rattle.bit_lists.proofs.Registers.{starts, ends}
use Rattle.bit_lists.proofs.check.crc16.Goals as goal

pub returns : goal.returns
returns c =
    ends c.args.bytes.now c.register_behind.result (search rules) (c.register_behind.ensures [] starts)
