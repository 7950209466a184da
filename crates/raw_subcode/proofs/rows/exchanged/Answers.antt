use Rattle.raw_subcode.proofs.RowBits.{lower_lane, lower_size, upper_lane, upper_size}
use Rattle.raw_subcode.proofs.rows.exchanged.Goals as goal

pub returns-clause-upper_size : goal.returns-clause-upper_size
returns-clause-upper_size c =
    upper_size c.args.upper c.args.lower c.args.places c.args.mask c.requires.upper c.requires.lower

pub returns-clause-lower_size : goal.returns-clause-lower_size
returns-clause-lower_size c =
    lower_size c.args.upper c.args.lower c.args.places c.args.mask c.requires.upper c.requires.lower

pub returns-clause-upper : goal.returns-clause-upper
returns-clause-upper c =
    λ b i lt.
    upper_lane c.args.upper c.args.lower c.args.places c.args.mask b i c.requires.upper c.requires.lower lt

pub returns-clause-lower : goal.returns-clause-lower
returns-clause-lower c =
    λ b i lt. lower_lane c.args.upper c.args.lower c.args.places c.args.mask b i c.requires.upper
    c.requires.lower c.requires.within lt
