use Rattle.std.proofs.Common.{◌<◌, [], get_or, length, ap, arith}
use Rattle.rw_mend.specs.Chosen.{completed, symbol_rule}
use Rattle.rw_mend.specs.HeldReadings.{held_blocks}
use Rattle.rw_mend.proofs.HeldBlocks.{held_count}
use Rattle.rw_mend.proofs.Ranks.{any_symbols, chosen_same}
use Rattle.rw_mend.proofs.held_readings.HeldReadings.chosen_symbols.Goals as goal

pub returns-then-have_same_block-clause-chosen : goal.returns-then-have_same_block-clause-chosen
returns-then-have_same_block-clause-chosen c =
    let blocks = held_blocks c.args.self.now c.args.b in
    let known = c.args.known.now in
    let some : 0 < length blocks = omega (arith, held_count c.args.self.now c.args.b, c.requires.held.some) in
    chosen_same (symbol_rule known blocks) blocks (completed known (get_or blocks 0 []))
    (λ r lt. ap (completed known) (c.have_same_block.ensures c.if-have_same_block.true r lt))
    (any_symbols blocks some)

pub highest-requires-clause-some : goal.highest-requires-clause-some
highest-requires-clause-some c =
    any_symbols (held_blocks c.args.self.now c.args.b)
    (omega (arith, held_count c.args.self.now c.args.b, c.requires.held.some))
