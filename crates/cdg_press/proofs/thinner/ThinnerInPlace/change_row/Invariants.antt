use Rattle.std.proofs.Common.{length, ◌-◌}
use Rattle.cdg_io.specs.Pump.{units_of}
use Rattle.cdg_press.proofs.Rows.{Left}
use Rattle.cdg_press.proofs.thinner.ThinnerInPlace.change_row.Given as goal

abbrev pub invariant-pairs : goal.invariant-pairs
invariant-pairs l = Left l.fn.self (units_of 24 l.fn.count l.fn.packs) l.self l.packs l.at

abbrev pub decreases-pairs : goal.decreases-pairs
decreases-pairs l = length l.initial.packs - l.at

abbrev pub invariant-rest : goal.invariant-rest
invariant-rest l = Left l.fn.self (units_of 24 l.fn.count l.fn.packs) l.self l.packs l.at

abbrev pub decreases-rest : goal.decreases-rest
decreases-rest l = length l.initial.packs - l.at
