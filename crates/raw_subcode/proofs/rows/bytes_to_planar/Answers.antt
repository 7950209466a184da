use Rattle.raw_subcode.proofs.RowBits.{form_of_rows}
use Rattle.std.proofs.Common.{rules}
use Rattle.raw_subcode.proofs.rows.bytes_to_planar.Goals as goal

pub returns : goal.returns
returns c =
    form_of_rows c.args.bytes.now c.one_after_another.result c.place_rows.result c.turned.result
    (search rules)
    c.one_after_another.ensures c.turned.ensures.bits c.place_rows.ensures.lanes
