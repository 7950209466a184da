use Rattle.std.proofs.Common.{◌+◌, ap, ◌∙◌, arith}
use Rattle.std.specs.Prelude.{slice_index}
use Rattle.raw_subcode.specs.PlanarBytes.{packed_at}
use Rattle.raw_subcode.proofs.QBytes.{q_byte_is}
use Rattle.raw_subcode.proofs.block.Block.q_byte.Goals as goal

pub returns : goal.returns
returns c =
    let bytes = c.self.inside.bytes in
    let first = c.args.first in
    q_byte_is (λ j. slice_index bytes (first + j)) c.eight_bytes-eight.result
    (λ k lt. c.bytes_are_below_256.ensures (first + k) 0 (omega (arith, lt, c.self.told)))
    c.eight_bytes-eight.ensures
    ∙ ap (λ b. packed_at b 1 first) c.self.view_is
