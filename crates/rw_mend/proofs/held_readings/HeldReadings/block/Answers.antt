use Rattle.std.proofs.Common.{sym, ◌∙◌, arith}
use Rattle.rw_mend.specs.HeldReadings.{held_parts}
use Rattle.rw_mend.proofs.Heaps.{parts_length}
use Rattle.rw_mend.proofs.HeldBlocks.{block_is, block_of_reading}
use Rattle.rw_mend.proofs.held_readings.HeldReadings.block.Goals as goal

pub returns-clause-block : goal.returns-clause-block
returns-clause-block c =
    let held = c.args.self.now in
    block_is held.count held.size c.args.r c.args.b held.bytes.now c.requires.within c.requires.inside
    ∙ sym (block_of_reading (held_parts held) c.args.b c.args.r
    (omega (arith, c.requires.within, parts_length held.count held.size held.bytes.now)))
