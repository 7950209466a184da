use Rattle.std.proofs.Common.{arith}
use Rattle.cdg_checkpoint.proofs.SlotRanges.{file_checked}
use Rattle.cdg_checkpoint.proofs.checking.judge.Goals as goal

pub returns : goal.returns
returns c =
    file_checked c.args.bytes.now c.check_fields.result
    (omega (arith, c.if-bytes-ne-FILE_BYTES.false))
    c.check_fields.ensures
