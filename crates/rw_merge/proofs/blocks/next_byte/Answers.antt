use Rattle.std.proofs.Common.{[], ◌∷◌, refl}
use Rattle.rw_merge.proofs.PairReads.{asks_as}
use Rattle.rw_merge.proofs.blocks.next_byte.Goals as goal

pub returns : goal.returns
returns g c =
    let done = c.fill.ensures in (
      c.fill.new.buf,
      asks_as g.S.Source _ _ _ c.fill.result 1
          (0 ∷ [])
          c.fill.new.buf refl refl c.fill.auto.buf done.ok done.end done.reads,
    )
