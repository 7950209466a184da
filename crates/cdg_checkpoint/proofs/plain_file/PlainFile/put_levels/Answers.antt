use Rattle.cdg_screen.specs.Memory.{seen}
use Rattle.std.proofs.Common.{length, ◌∷◌, [], sym, ap, arith, length-append}
use Rattle.cdg_checkpoint.specs.Table.{Levels}
use Rattle.cdg_checkpoint.specs.Checkpoint.{kept}
use Rattle.cdg_checkpoint.proofs.Writing.{field_put, none_put, all_put, written_byte}
use Rattle.cdg_checkpoint.proofs.plain_file.PlainFile.put_levels.Goals as goal

pub loop-k-init : goal.loop-k-init
loop-k-init c = record {
  size = omega arith;
  part = λ counts slots. none_put c.args.self.now (kept counts slots (seen c.args.screen.now)) Levels;
}

pub loop-k-preserved : goal.loop-k-preserved
loop-k-preserved c = record {
  size = omega (
    arith,
    ap length c.put.ensures,
    length-append c.loop-k.self (c.level.result ∷ []),
    c.loop-k.invariant.size,
  );
  part = λ counts slots.
      field_put c.args.self.now _ _ _ (kept counts slots (seen c.args.screen.now)) Levels c.loop-k.k
      c.put.ensures
      (c.loop-k.invariant.part counts slots)
      (written_byte _ _ (sym c.level.ensures.level) (omega (arith, c.level.ensures.range)));
}

pub returns-clause-part : goal.returns-clause-part
returns-clause-part c counts slots =
    all_put c.args.self.now _ (kept counts slots (seen c.args.screen.now)) Levels c.loop-k.k
    (c.loop-k.invariant.part counts slots) (omega (arith, c.loop-k.auto.k-end, c.loop-k-test.false))
