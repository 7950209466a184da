use Rattle.std.proofs.Common.{refl, arith, rules}
use Rattle.disc_time.proofs.BcdTable.{none_at, some_at}
use Rattle.disc_time.proofs.time.from_bcd.Goals as goal

pub returns-in-255 : goal.returns-in-255
returns-in-255 c = none_at c.args.byte c.from.result _ (omega arith) c.from.ensures refl c.in-255.is

pub returns-in_default : goal.returns-in_default
returns-in_default c = some_at c.args.byte c.from.result _ (omega arith) c.from.ensures refl (search rules)
