use Rattle.std.proofs.Common.{◌≡◌, refl, arith}
use Rattle.cdg_workload.proofs.BlockRuns.{block_skipped}
use Rattle.cdg_workload.proofs.scratching.Scratches.scratch.Goals as goal

pub returns-else-not-skip_block-clause-next : goal.returns-else-not-skip_block-clause-next
returns-else-not-skip_block-clause-next c =
    let none : c.args.self.now.lead_in ≡ 0 = omega arith in
    let skips = c.if-not-skip_block.ensures in
    (block_skipped c.args.self.now c.skip_block.new.self c.args.block.now none c.told-block
    (skips.skips refl)
    (skips.next refl)).0

pub returns-else-not-skip_block-clause-gives : goal.returns-else-not-skip_block-clause-gives
returns-else-not-skip_block-clause-gives c =
    let none : c.args.self.now.lead_in ≡ 0 = omega arith in
    let skips = c.if-not-skip_block.ensures in
    (block_skipped c.args.self.now c.skip_block.new.self c.args.block.now none c.told-block
    (skips.skips refl)
    (skips.next refl)).1
