use Rattle.cdg_screen.specs.Memory.{seen}
use Rattle.std.proofs.Common.{length, sym, ◌∙◌, ap, arith, length-append}
use Rattle.cdg_checkpoint.specs.Table.{Colours}
use Rattle.cdg_checkpoint.specs.Checkpoint.{kept}
use Rattle.cdg_checkpoint.proofs.Writing.{field_put, none_put, all_put, two_bytes}
use Rattle.cdg_checkpoint.proofs.plain_file.PlainFile.put_colours.Goals as goal

pub loop-k-init : goal.loop-k-init
loop-k-init c = record {
  size = omega arith;
  part = λ counts slots. none_put c.args.self.now (kept counts slots (seen c.args.screen.now)) Colours;
}

pub loop-k-preserved : goal.loop-k-preserved
loop-k-preserved c = record {
  size = omega (
    arith,
    ap length c.put.ensures,
    length-append c.loop-k.self (c.to_be_bytes.result),
    c.loop-k.invariant.size,
  );
  part = λ counts slots.
      field_put c.args.self.now _ _ _ (kept counts slots (seen c.args.screen.now)) Colours c.loop-k.k
      c.put.ensures
      (c.loop-k.invariant.part counts slots)
      (two_bytes _ _ (sym c.colour.ensures.colour) ∙ sym c.to_be_bytes.ensures);
}

pub returns-clause-part : goal.returns-clause-part
returns-clause-part c counts slots =
    all_put c.args.self.now _ (kept counts slots (seen c.args.screen.now)) Colours c.loop-k.k
    (c.loop-k.invariant.part counts slots) (omega (arith, c.loop-k.auto.k-end, c.loop-k-test.false))
