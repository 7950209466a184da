use Rattle.std.proofs.Common.{sym, arith}
use Rattle.std.proofs.lemmas.List.{length-take-le}
use Rattle.cdg_checkpoint.proofs.checking.check_of_body.Goals as goal

pub slice_bounds-crc16-end : goal.slice_bounds-crc16-end
slice_bounds-crc16-end c = sym (length-take-le 65043 c.args.bytes.now (omega (arith, c.requires)))
