use Rattle.std.proofs.Common.{◌<◌}
use Rattle.rw_mend.specs.HeldReadings.{held_blocks, rule_of}
use Rattle.rw_mend.proofs.Ranks.{IsLeading}
use Rattle.rw_mend.proofs.held_readings.HeldReadings.highest.Given as goal

abbrev pub invariant-loop-r : goal.invariant-loop-r
invariant-loop-r l = record {
  within : l.highest < l.self.count;
  leads : IsLeading (rule_of l.part (held_blocks l.self l.b)) (held_blocks l.self l.b) l.r l.highest;
}
