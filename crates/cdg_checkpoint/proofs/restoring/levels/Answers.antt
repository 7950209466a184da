use Rattle.std.proofs.Common.{arith, ◌∙◌}
use Rattle.std.proofs.lemmas.List.{length-set}
use Rattle.bit_lists.proofs.Groups.{all_below_bound}
use Rattle.cdg_screen.proofs.Lists.{sixteen_are}
use Rattle.cdg_checkpoint.specs.Table.{Levels, number}
use Rattle.cdg_checkpoint.proofs.Restored.{one_at, set_below, set_range}
use Rattle.cdg_checkpoint.proofs.restoring.levels.Goals as goal

pub loop-k-preserved : goal.loop-k-preserved
loop-k-preserved c = record {
  size = length-set c.loop-k.levels c.loop-k.k c.byte.result ∙ c.loop-k.invariant.size;
  set =
      set_below c.loop-k.levels c.loop-k.k c.byte.result (number c.args.bytes.now Levels)
      (omega (arith, c.loop-k.invariant.size, c.loop-k-test.true)) c.loop-k.invariant.set
      (c.byte.ensures.number ∙ one_at c.args.bytes.now 65027 c.loop-k.k);
  range =
      set_range c.loop-k.levels c.loop-k.k c.byte.result 64
      (omega (arith, c.loop-k.invariant.size, c.loop-k-test.true)) c.loop-k.invariant.range
      (omega (
        arith,
        c.byte.ensures.number ∙ one_at c.args.bytes.now 65027 c.loop-k.k,
        c.requires.ranges.1.1.1.1.1.1.1.1.1.1.1.0 c.loop-k.k c.loop-k-test.true,
      ));
}

pub returns-clause-levels : goal.returns-clause-levels
returns-clause-levels c =
    sixteen_are c.loop-k.levels (number c.args.bytes.now Levels) c.loop-k.invariant.size
    (λ k lt. c.loop-k.invariant.set k (omega (arith, lt)))

pub returns-clause-range : goal.returns-clause-range
returns-clause-range c = all_below_bound 64 c.loop-k.levels c.loop-k.invariant.range
