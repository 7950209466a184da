use Rattle.std.proofs.Common.{arith, ◌∙◌}
use Rattle.std.proofs.lemmas.List.{length-set}
use Rattle.bit_lists.proofs.Groups.{all_below_bound}
use Rattle.cdg_screen.proofs.Lists.{sixteen_are}
use Rattle.cdg_checkpoint.specs.Table.{Colours, number}
use Rattle.cdg_checkpoint.proofs.Restored.{set_below, set_range}
use Rattle.cdg_checkpoint.proofs.restoring.colours.Goals as goal

pub loop-k-preserved : goal.loop-k-preserved
loop-k-preserved c = record {
  size = length-set c.loop-k.colours c.loop-k.k c.short_number.result ∙ c.loop-k.invariant.size;
  set = set_below c.loop-k.colours c.loop-k.k c.short_number.result (number c.args.bytes.now Colours)
      (omega (arith, c.loop-k.invariant.size, c.loop-k-test.true)) c.loop-k.invariant.set
      c.short_number.ensures;
  range =
      set_range c.loop-k.colours c.loop-k.k c.short_number.result 4096
      (omega (arith, c.loop-k.invariant.size, c.loop-k-test.true)) c.loop-k.invariant.range
      (omega
      (arith, c.short_number.ensures, c.requires.ranges.1.1.1.1.1.1.1.1.1.1.0 c.loop-k.k c.loop-k-test.true));
}

pub returns-clause-colours : goal.returns-clause-colours
returns-clause-colours c =
    sixteen_are c.loop-k.colours (number c.args.bytes.now Colours) c.loop-k.invariant.size
    (λ k lt. c.loop-k.invariant.set k (omega (arith, lt)))

pub returns-clause-range : goal.returns-clause-range
returns-clause-range c = all_below_bound 4096 c.loop-k.colours c.loop-k.invariant.range
