use Rattle.std.proofs.Common.{◌<◌, [], get_or, length, arith}
use Rattle.rw_mend.specs.Chosen.{channel_rule, channels_of}
use Rattle.rw_mend.specs.HeldReadings.{held_blocks}
use Rattle.rw_mend.proofs.HeldBlocks.{held_count}
use Rattle.rw_mend.proofs.Ranks.{any_channels, chosen_same}
use Rattle.rw_mend.proofs.held_readings.HeldReadings.chosen_channels.Goals as goal

pub returns-then-have_same_channels-clause-chosen : goal.returns-then-have_same_channels-clause-chosen
returns-then-have_same_channels-clause-chosen c =
    let blocks = held_blocks c.args.self.now c.args.b in
    let some : 0 < length blocks = omega (arith, held_count c.args.self.now c.args.b, c.requires.held.some) in
    chosen_same (channel_rule blocks) blocks (channels_of (get_or blocks 0 []))
    (c.have_same_channels.ensures c.if-have_same_channels.true) (any_channels blocks some)

pub highest-requires-clause-some : goal.highest-requires-clause-some
highest-requires-clause-some c =
    any_channels (held_blocks c.args.self.now c.args.b)
    (omega (arith, held_count c.args.self.now c.args.b, c.requires.held.some))
