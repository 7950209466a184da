use Rattle.cdg_checkpoint.proofs.Restored.{memory_count, memory_range, memory_rows}
use Rattle.cdg_checkpoint.proofs.restoring.pixels.Goals as goal

pub returns-clause-count : goal.returns-clause-count
returns-clause-count c = memory_count c.args.bytes.now c.requires.size

pub returns-clause-range : goal.returns-clause-range
returns-clause-range c = memory_range c.args.bytes.now c.requires.size c.requires.ranges.1.1.1.1.1.1.0

pub returns-clause-rows : goal.returns-clause-rows
returns-clause-rows c = memory_rows c.args.bytes.now
