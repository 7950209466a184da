use Rattle.std.proofs.Common.{◌+◌, ◌&&◌, if◌then◌else◌, ◌∙◌, get_or, ap, arith}
use Rattle.std.specs.Prelude.{nat_le, nat_lt}
use Rattle.cdg_screen.proofs.WholeRows.{filled_part}
use Rattle.cdg_screen.proofs.row_parts.fill.Goals as goal

pub returns-then-to-from-eq-TILE_WIDTH : goal.returns-then-to-from-eq-TILE_WIDTH
returns-then-to-from-eq-TILE_WIDTH c i =
    filled_part c.args.from (c.args.from + 6) c.args.colour c.args.columns.now c.fill.new.self i (omega arith)
    (omega (arith, c.if-to-from-eq-TILE_WIDTH.true, c.requires.room)) (c.fill.ensures.after (λ y e. e))
    ∙ ap (λ to. if nat_le c.args.from i && nat_lt i to then c.args.colour else get_or c.args.columns.now i 0)
    (omega (arith, c.if-to-from-eq-TILE_WIDTH.true))

pub returns-else-to-from-eq-TILE_WIDTH : goal.returns-else-to-from-eq-TILE_WIDTH
returns-else-to-from-eq-TILE_WIDTH c i =
    filled_part c.args.from c.args.to c.args.colour c.args.columns.now
    c.fill-else-to-from-eq-TILE_WIDTH.new.self i c.requires.order c.requires.room
    (c.fill-else-to-from-eq-TILE_WIDTH.ensures.after (λ y e. e))
