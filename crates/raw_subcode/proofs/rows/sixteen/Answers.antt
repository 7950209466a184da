use Rattle.std.proofs.Common.{◌*◌}
use Rattle.std.proofs.lemmas.Simd.{get_or-chunk}
use Rattle.raw_subcode.proofs.rows.sixteen.Goals as goal

pub returns-clause-lanes : goal.returns-clause-lanes
returns-clause-lanes c = λ p lt. get_or-chunk (16 * c.args.m) 16 c.args.bytes.now p 0 lt
