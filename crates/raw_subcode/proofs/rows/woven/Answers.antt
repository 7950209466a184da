use Rattle.raw_subcode.proofs.RowBits.{first_woven, second_woven}
use Rattle.raw_subcode.proofs.rows.woven.Goals as goal

pub returns-clause-first : goal.returns-clause-first
returns-clause-first c = first_woven c.args.even c.args.odd c.requires.even c.requires.odd

pub returns-clause-second : goal.returns-clause-second
returns-clause-second c = second_woven c.args.even c.args.odd c.requires.even c.requires.odd
