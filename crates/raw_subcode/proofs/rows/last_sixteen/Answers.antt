use Rattle.raw_subcode.proofs.RowBits.{four_of, twelve_of}
use Rattle.raw_subcode.proofs.rows.last_sixteen.Goals as goal

pub returns-clause-four : goal.returns-clause-four
returns-clause-four c = four_of c.args.row c.args.next c.requires.row

pub returns-clause-twelve : goal.returns-clause-twelve
returns-clause-twelve c = twelve_of c.args.row c.args.next c.requires.row
