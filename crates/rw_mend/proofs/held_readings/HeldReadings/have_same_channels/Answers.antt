use Rattle.std.proofs.Common.{arith}
use Rattle.rw_mend.specs.Chosen.{channels_of}
use Rattle.rw_mend.specs.HeldReadings.{held_blocks}
use Rattle.rw_mend.proofs.HeldBlocks.{held_count, same_part}
use Rattle.rw_mend.proofs.held_readings.HeldReadings.have_same_channels.Goals as goal

pub returns : goal.returns
returns c all =
    let held = c.args.self.now in
    same_part channels_of (held_blocks held c.args.b) c.loop-r.r _
    (omega (arith, held_count held c.args.b, c.loop-r-test.false)) c.loop-r.invariant
