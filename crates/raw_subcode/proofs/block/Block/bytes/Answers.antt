use Rattle.std.proofs.Common.{◌<◌, subst}
use Rattle.std.specs.Prelude.{All}
use Rattle.raw_subcode.proofs.block.Block.bytes.Goals as goal

pub returns-clause-small : goal.returns-clause-small
returns-clause-small c = subst (All (λ b. b < 256)) c.self.view_is c.bytes_are_below_256.ensures
