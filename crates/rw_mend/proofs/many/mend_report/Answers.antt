use Rattle.std.proofs.Common.{◌/◌, sym, length}
use Rattle.rw_mend.proofs.Heaps.{first_long, joined_parts}
use Rattle.rw_mend.proofs.many.mend_report.Goals as goal

pub returns : goal.returns
returns c =
    let bytes = c.args.readings.now in
    let size = length bytes / c.args.count in
    c.mend_split.ensures bytes (sym (first_long c.args.count bytes c.requires.some c.requires.equal))
    (joined_parts size bytes)
