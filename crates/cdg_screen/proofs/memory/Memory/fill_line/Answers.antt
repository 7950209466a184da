use Rattle.std.proofs.Common.{◌+◌, ◌-◌, ◌<◌, ◌∙◌, ℕ, arith}
use Rattle.cdg_screen.proofs.Filled.{row_filled}
use Rattle.cdg_screen.proofs.MemoryRows.{row_set-is_memory}
use Rattle.cdg_screen.proofs.WholeRows.{small_between}
use Rattle.cdg_screen.proofs.memory.Memory.fill_line.Goals as goal

pub invariant_of-self : goal.invariant_of-self
invariant_of-self c =
    let g = c.self.invariant in
    let first : ℕ = c.wrapped-first.result in
    let count : ℕ = c.min-count.result in
    let r : ℕ = c.wrapped.result in
    let r_lt : r < 216 = omega (arith, c.wrapped.ensures) in
    row_set-is_memory _ r c.fill-2.new.columns g
    (c.fill-2.auto.columns ∙ c.fill.auto.columns ∙ g.widths r r_lt)
    (λ k. small_between _ _ _ 0 (c.args.width - count) k (c.fill-2.ensures k) c.requires.range
    (small_between _ _ _ first (first + count) k (c.fill.ensures k) c.requires.range (g.colours r k))) r_lt

pub returns : goal.returns
returns c =
    rw (← c.self.view_is) (row_filled c.self.inside.rows c.fill.new.columns c.fill-2.new.columns
    c.self.inside.left c.self.inside.top c.args.x c.args.y c.args.width c.wrapped-first.result
    c.min-count.result c.args.colour c.wrapped.result c.self.invariant c.requires.width c.requires.height
    c.wrapped-first.ensures c.min-count.ensures c.wrapped.ensures c.fill.ensures c.fill-2.ensures)
