use Rattle.cdg_instructions.proofs.Symbols.{part_below}
use Rattle.cdg_instructions.proofs.reading.levels.Goals as goal

pub returns-clause-range : goal.returns-clause-range
returns-clause-range c =
    part_below 4 16 c.args.symbols.now c.copy_from_slice.new.self c.requires c.copy_from_slice.ensures.after
