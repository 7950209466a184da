use Rattle.std.proofs.Common.{◌≡◌, ◌+◌, ◌∙◌, ap, arith}
use Rattle.bit_lists.proofs.Groups.{all_below_bound}
use Rattle.cdg_screen.specs.Memory.{at}
use Rattle.cdg_screen.proofs.memory.Memory.row.Goals as goal

pub returns-clause-pixels : goal.returns-clause-pixels
returns-clause-pixels c x lt =
    let here : 0 + x ≡ x = omega arith in
    c.copy_columns.ensures.pixels x (omega (arith, lt)) ∙ ap (λ i. at c.args.self.now i c.args.y) here

pub returns-clause-range : goal.returns-clause-range
returns-clause-range c = all_below_bound 16 c.copy_columns.new.columns c.copy_columns.ensures.range
