use Rattle.std.proofs.Common.{refl, arith}
use Rattle.stream_stages.proofs.NearIdle.{idle_more}
use Rattle.stream_stages.proofs.block_packs.are_near_idle.Goals as goal

pub loop-word-preserved : goal.loop-word-preserved
loop-word-preserved c =
    let words = c.as_slice-word-items.result.now in
    let near = c.if-not-is_near_idle.ensures.near in
    idle_more words c.loop-word.word-index _ (omega arith) c.word-item.is c.requires
    c.is_near_idle.ensures.word (near.0 refl) c.loop-word.invariant
