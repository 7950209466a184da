use Rattle.std.proofs.Common.{arith}
use Rattle.live_player.proofs.plays.LivePlayerAnyPlayer.restore.Goals as goal

pub overflow_add-lead_in : goal.overflow_add-lead_in
overflow_add-lead_in c = omega (
  arith,
  c.requires.ranges.1.1.0 0 (omega arith),
  c.counts-counts.ensures.to_come,
  c.counts-counts.ensures.lead_in,
)

pub overflow_add-blocks : goal.overflow_add-blocks
overflow_add-blocks c = omega (
  arith,
  (c.requires.ranges.1.1.1.0 0 (omega arith)).0,
  c.counts-counts.ensures.lead_in,
  c.counts-counts.ensures.program,
)
