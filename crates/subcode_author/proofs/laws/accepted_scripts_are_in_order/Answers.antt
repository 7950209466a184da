use Rattle.subcode_author.proofs.Accepted.{accepted_times, accepted_colours, accepted_pixels}
use Rattle.subcode_author.proofs.laws.accepted_scripts_are_in_order.Goals as goal

pub returns-clause-times : goal.returns-clause-times
returns-clause-times c = accepted_times

pub returns-clause-colours : goal.returns-clause-colours
returns-clause-colours c = accepted_colours

pub returns-clause-pixels : goal.returns-clause-pixels
returns-clause-pixels c = accepted_pixels
