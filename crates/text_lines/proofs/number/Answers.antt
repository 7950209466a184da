use Rattle.std.proofs.Common.{arith}
use Rattle.text_lines.proofs.NumberSteps.{value_more, bound_more, digits_more, power_bound, short_bound}
use Rattle.text_lines.proofs.number.Goals as goal

pub overflow_mul-value : goal.overflow_mul-value
overflow_mul-value c = omega
    (arith, short_bound c.loop-byte.byte-index c.loop-byte.value (omega arith) c.loop-byte.invariant.bound)

pub overflow_add-value : goal.overflow_add-value
overflow_add-value c = omega
    (arith, short_bound c.loop-byte.byte-index c.loop-byte.value (omega arith) c.loop-byte.invariant.bound)

pub loop-byte-preserved : goal.loop-byte-preserved
loop-byte-preserved c = record {
  value =
      value_more c.args.word.now c.loop-byte.byte-index c.loop-byte.value c.from.result c.loop-byte-test.true
      (grind arith) (grind arith) c.from.ensures c.loop-byte.invariant.value;
  bound =
      bound_more c.loop-byte.byte-index c.loop-byte.value c.from.result c.loop-byte.invariant.bound
      (grind arith);
  digits =
      digits_more c.args.word.now c.loop-byte.byte-index c.loop-byte-test.true (grind arith)
      c.loop-byte.invariant.digits;
}

pub returns-clause-bound : goal.returns-clause-bound
returns-clause-bound c =
    omega (arith, power_bound c.loop-byte.byte-index c.args.most (omega arith), c.loop-byte.invariant.bound)
