use Rattle.std.proofs.Common.{◌<◌, ◌∙◌, ap, rules}
use Rattle.rw_mend.specs.Tallies.{source_byte, source_number}
use Rattle.rw_mend.proofs.Reporting.{tally_reading}
use Rattle.rw_mend.proofs.tallies.Tallies.add.Goals as goal

pub returns-in-Reading : goal.returns-in-Reading
returns-in-Reading c all are =
    let within : c.in-Reading.r < 254 = search rules in
    let e = c.add_reading.ensures in
    tally_reading all c.args.found.now c.args.self.now c.add_reading.new.self c.in-Reading.r within
    (ap source_byte c.in-Some.is ∙ ap source_number c.in-Reading.is) e.of_reading e.agreed e.none e.reserved
    are
