use Rattle.std.proofs.Common.{◌≡◌, ◌*◌, drop, length}
use Rattle.rw_mend.specs.HeldReadings.{held_parts}
use Rattle.rw_mend.specs.Symbols.{AreBlocks}
use Rattle.rw_mend.proofs.blocks.write_blocks.Given as goal

abbrev pub invariant-loop-b : goal.invariant-loop-b
invariant-loop-b l = record {
  size : length l.blocks ≡ length l.fn.blocks;
  behind : drop (96 * l.b) l.blocks ≡ drop (96 * l.b) l.fn.blocks;
  blocks : AreBlocks l.words (drop l.start l.fn.blocks) (held_parts l.readings) l.b l.blocks;
}
