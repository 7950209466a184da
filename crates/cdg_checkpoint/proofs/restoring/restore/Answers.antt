use Rattle.std.proofs.Common.{◌∙◌, arith}
use Rattle.cdg_checkpoint.proofs.restoring.restore.Goals as goal

pub returns : goal.returns
returns c =
    c.restore.ensures
    ∙ (λ i. record {
      memory = c.pixels.ensures.rows i;
      border = c.byte.ensures.number i;
      colours = c.colours.ensures.colours i;
      levels = c.levels.ensures.levels i;
      h = c.byte-2.ensures.number i;
      v = c.byte-3.ensures.number i;
    })

pub restore-requires-clause-border : goal.restore-requires-clause-border
restore-requires-clause-border c =
    omega (arith, c.byte.ensures.number, c.requires.ranges.1.1.1.1.1.1.1.0 0 (omega arith))

pub restore-requires-clause-across : goal.restore-requires-clause-across
restore-requires-clause-across c =
    omega (arith, c.byte-2.ensures.number, c.requires.ranges.1.1.1.1.1.1.1.1.0 0 (omega arith))

pub restore-requires-clause-down : goal.restore-requires-clause-down
restore-requires-clause-down c =
    omega (arith, c.byte-3.ensures.number, c.requires.ranges.1.1.1.1.1.1.1.1.1.0 0 (omega arith))
