use Rattle.std.proofs.Common.{◌<◌, subst, arith}
use Rattle.std.specs.Prelude.{IfSome}
use Rattle.pack_schedule.proofs.Counting.{single_step, mixed_step}
use Rattle.pack_schedule.proofs.change.tiles.TileCounts.add.Goals as goal

pub returns-in-Some-clause-colours : goal.returns-in-Some-clause-colours
returns-in-Some-clause-colours c tile h d d_lt =
    rw (c.from-weight.ensures, c.from.ensures)
    (single_step tile c.args.self.now.single c.args.kept c.in-Some.colour d c.args.self.now.whole
    (omega arith) (subst (λ o. IfSome o (λ n. n < 16)) c.in-Some.is h.colour) d_lt h c.in-Some.is)

pub returns-in_default-clause-colours : goal.returns-in_default-clause-colours
returns-in_default-clause-colours c tile h d d_lt =
    rw c.from-weight.ensures
    (mixed_step tile c.args.self.now.single c.args.kept d c.args.self.now.whole d_lt h c.in_default.is)
