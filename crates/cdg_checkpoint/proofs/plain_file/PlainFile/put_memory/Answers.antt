use Rattle.cdg_screen.specs.Memory.{seen}
use Rattle.std.proofs.Common.{◌*◌, length, ap, arith, length-append}
use Rattle.cdg_checkpoint.specs.Table.{Memory}
use Rattle.cdg_checkpoint.specs.Checkpoint.{kept}
use Rattle.cdg_checkpoint.proofs.Writing.{none_put, all_put}
use Rattle.cdg_checkpoint.proofs.MemoryRows.{row_put}
use Rattle.cdg_checkpoint.proofs.plain_file.PlainFile.put_memory.Goals as goal

pub loop-y-init : goal.loop-y-init
loop-y-init c = record {
  size = omega arith;
  part = λ counts slots. none_put c.args.self.now (kept counts slots (seen c.args.screen.now)) Memory;
}

pub loop-y-preserved : goal.loop-y-preserved
loop-y-preserved c = record {
  size = omega (
    arith,
    ap length c.put.ensures,
    length-append c.loop-y.self c.memory_row.result,
    c.memory_row.ensures.size,
    c.loop-y.invariant.size,
  );
  part = λ counts slots.
      row_put c.args.self.now _ _ c.memory_row.result (kept counts slots (seen c.args.screen.now)) c.loop-y.y
      c.put.ensures (c.loop-y.invariant.part counts slots)
      c.memory_row.ensures.row c.memory_row.ensures.size c.memory_row.ensures.range;
}

pub returns-clause-part : goal.returns-clause-part
returns-clause-part c counts slots =
    all_put c.args.self.now _ (kept counts slots (seen c.args.screen.now)) Memory (300 * c.loop-y.y)
    (c.loop-y.invariant.part counts slots) (omega (arith, c.loop-y.auto.y-end, c.loop-y-test.false))
