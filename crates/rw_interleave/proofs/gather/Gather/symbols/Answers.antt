use Rattle.std.proofs.Common.{◌*◌, ◌-◌, ◌∙◌, ◌++◌, ap, arith, rules}
use Rattle.rw_interleave.specs.Gathering.{kept_symbols}
use Rattle.rw_interleave.proofs.Windows.{kept_in, padded}
use Rattle.rw_interleave.proofs.gather.Gather.symbols.Goals as goal

pub returns : goal.returns
returns c =
    padded (c.self.inside.early ++ c.self.inside.late) c.row_of-row.result c.slots_from.result
    (24 * (7 - c.self.inside.count)) (omega arith) c.self.invariant.size (search rules)
    c.row_of-row.ensures.before c.slots_from.ensures.zeros c.slots_from.ensures.rest
    ∙ kept_in (c.self.inside.early ++ c.self.inside.late) c.self.inside.count c.self.inside.quiet
    c.self.invariant
    ∙ ap kept_symbols c.self.view_is
