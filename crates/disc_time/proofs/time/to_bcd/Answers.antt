use Rattle.std.proofs.Common.{refl, arith}
use Rattle.disc_time.proofs.BcdTable.{byte_at}
use Rattle.disc_time.proofs.time.to_bcd.Goals as goal

pub returns : goal.returns
returns c = byte_at c.args.n c.from.result _ c.requires (omega (arith, c.from.ensures)) refl
