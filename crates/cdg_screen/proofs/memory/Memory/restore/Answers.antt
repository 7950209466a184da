use Rattle.std.proofs.Common.{List, ℕ, [], ap, ap₂, arith, get_or, length, set, ◌∙◌}
use Rattle.cdg_screen.specs.Memory.{at}
use Rattle.cdg_screen.proofs.MemoryRows.{all_below, row_in-below, row_in-width, row_set-is_memory, rows_in-become, rows_in_more}
use Rattle.cdg_screen.proofs.memory.Memory.restore.Goals as goal

pub loop-y-preserved : goal.loop-y-preserved
loop-y-preserved c =
    let before = c.loop-y.invariant in
    let pixels = c.args.pixels.now in
    let row = c.row_in.ensures in
    record {
      memory =
          row_set-is_memory _ c.loop-y.y c.row_in.result before.memory
          (ap length row ∙ row_in-width c.args.pixels.now c.loop-y.y c.requires.count c.loop-y-test.true)
          (λ x. omega (
            arith,
            ap (λ (r : List ℕ). get_or r x 0) row,
            row_in-below c.args.pixels.now c.loop-y.y x c.requires.count c.loop-y-test.true
                (all_below c.args.pixels.now c.requires.range),
          )) c.loop-y-test.true;
      left = before.left;
      top = before.top;
      rows = λ y lt.
          ap (λ (r : List ℕ). get_or (set c.loop-y.self-inside.rows c.loop-y.y r) y []) row
          ∙ rows_in_more c.loop-y.self-inside.rows c.loop-y.y c.args.pixels.now
          (omega (arith, before.memory.count, c.loop-y-test.true)) before.rows y lt;
    }

pub returns : goal.returns
returns c = λ x y x_lt y_lt.
    let after = c.loop-y.invariant in
    ap₂ (λ left top. at (record { rows = c.loop-y.self-inside.rows; left = left; top = top }) x y)
    after.left after.top
    ∙ rows_in-become c.loop-y.self-inside.rows c.args.pixels.now (λ y lt. after.rows y (omega arith)) x
    y x_lt y_lt
