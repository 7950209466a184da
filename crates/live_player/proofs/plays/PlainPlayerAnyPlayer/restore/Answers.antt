use Rattle.std.proofs.Common.{arith}
use Rattle.live_player.proofs.plays.PlainPlayerAnyPlayer.restore.Goals as goal

pub overflow_add-self : goal.overflow_add-self
overflow_add-self c = omega (
  arith,
  c.requires.ranges.1.1.0 0 (omega arith),
  c.counts-counts.ensures.to_come,
  c.counts-counts.ensures.lead_in,
)

pub overflow_add-self-2 : goal.overflow_add-self-2
overflow_add-self-2 c = omega (
  arith,
  (c.requires.ranges.1.1.1.0 0 (omega arith)).0,
  c.counts-counts.ensures.lead_in,
  c.counts-counts.ensures.program,
)
