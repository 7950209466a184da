use Rattle.std.proofs.Common.{arith, ◌+◌, ◌*◌, ◌-◌}
use Rattle.cdg_checkpoint.proofs.Restored.{slot_is}
use Rattle.cdg_checkpoint.proofs.restoring.slot_in.Goals as goal

pub returns : goal.returns
returns c =
    slot_is c.args.bytes.now _ c.args.k (24 + 24 * c.args.k + 24 - (24 + 24 * c.args.k)) c.requires.k
    (omega arith) c.copy_from_slice.ensures.after
