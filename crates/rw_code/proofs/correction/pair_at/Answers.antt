use Rattle.std.proofs.Common.{ℕ, ap₂}
use Rattle.rw_code.specs.declared.correction.Pair.{Pair}
use Rattle.rw_code.proofs.Locating.{pair_at, bounds_at}
use Rattle.rw_code.proofs.correction.pair_at.Goals as goal

abbrev a_pair : ℕ → ℕ → Pair
a_pair d z = record { difference = d; sum = z }

pub returns-clause-only : goal.returns-clause-only
returns-clause-only c = λ d z pair at_is. let both = pair_at d z c.args.ratio pair at_is in
    ap₂ a_pair both.0 both.1

pub returns-clause-bound : goal.returns-clause-bound
returns-clause-bound c = bounds_at c.args.ratio c.requires
