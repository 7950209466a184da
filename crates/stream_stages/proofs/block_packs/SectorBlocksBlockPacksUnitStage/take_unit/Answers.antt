use Rattle.std.proofs.Common.{ap, ◌∙◌}
use Rattle.std.proofs.lemmas.List.{take_rest}
use Rattle.stream_stages.specs.Steps.{packs_next, packs_give}
use Rattle.stream_stages.specs.declared.block_packs.BlockPacks.{BlockPacks}
use Rattle.stream_stages.proofs.block_packs.SectorBlocksBlockPacksUnitStage.take_unit.Goals as goal

pub returns-clause-next : goal.returns-clause-next
returns-clause-next c =
    ap (λ (p : BlockPacks). record { blocks = p }) (c.take_unit.ensures.next
    ∙ ap (packs_next c.args.self.now.blocks) (take_rest c.args.sector.now 2352))

pub returns-clause-gives : goal.returns-clause-gives
returns-clause-gives c =
    c.take_unit.ensures.gives ∙ ap (packs_give c.args.self.now.blocks) (take_rest c.args.sector.now 2352)
