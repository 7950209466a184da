use Rattle.std.proofs.Common.{arith}
use Rattle.ribjasper_web.proofs.picture.ribjasper_web_shown.Goals as goal

pub loop-k-2-init : goal.loop-k-2-init
loop-k-2-init c = record {
  size = c.loop-k.invariant.levels_size;
  colours = λ n lt. c.loop-k.invariant.colours n (omega (arith, lt, c.loop-k-test.false));
  levels = λ n lt. absurd (omega (arith, lt));
}
