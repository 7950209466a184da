use Rattle.cdg_instructions.proofs.Symbols.{part_below}
use Rattle.cdg_instructions.proofs.reading.lines.Goals as goal

pub returns-clause-range : goal.returns-clause-range
returns-clause-range c =
    part_below 8 12 c.args.symbols.now c.copy_from_slice.new.self c.requires c.copy_from_slice.ensures.after
