use Rattle.std.proofs.Common.{◌≡◌, ◌+◌, ap, arith}
use Rattle.std.specs.Prelude.{slice_index}
use Rattle.raw_subcode.specs.Lanes.{in_lanes}
use Rattle.raw_subcode.proofs.lanes.eight_bytes.Goals as goal

pub returns : goal.returns
unfolding in_lanes
returns c =
    let bytes = c.args.bytes.now in
    let first = c.args.first in
    let begin : slice_index bytes first ≡ slice_index bytes (first + 0) =
    ap (slice_index bytes) (omega arith) in
    omega (arith, c.from_le_bytes.ensures, begin)
