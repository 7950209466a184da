use Rattle.std.proofs.Common.{◌≡◌, ◌≤◌, ◌-◌, Some, length, take}
use Rattle.std.specs.Prelude.{All, replicate}
use Rattle.stream_stages.specs.Steps.{packs_next, packs_give}
use Rattle.stream_stages.proofs.block_packs.BlockPacks.pass_run.Given as goal

abbrev pub invariant-loop-count : goal.invariant-loop-count
invariant-loop-count l = record {
  within : l.count ≤ length l.blocks;
  stays : All (λ block. packs_next l.self block ≡ l.self) (take l.count l.blocks);
  gives : All (λ block. packs_give l.self block ≡ Some (replicate 96 0)) (take l.count l.blocks);
}

abbrev pub decreases-loop-count : goal.decreases-loop-count
decreases-loop-count l = length l.blocks - l.count
