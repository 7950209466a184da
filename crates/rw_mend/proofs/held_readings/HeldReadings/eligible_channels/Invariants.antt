use Rattle.std.proofs.Common.{◌≡◌, ◌<◌, ℕ, false, [], get_or, length, take}
use Rattle.std.specs.List.{list_any}
use Rattle.rw_mend.specs.Chosen.{is_framed_block}
use Rattle.rw_mend.specs.HeldReadings.{held_blocks}
use Rattle.rw_mend.proofs.held_readings.HeldReadings.eligible_channels.Given as goal

abbrev pub invariant-loop-r : goal.invariant-loop-r
invariant-loop-r l = record {
  size : length l.marks ≡ 254;
  any : l.is_any ≡ list_any is_framed_block (take l.r (held_blocks l.self l.b));
  each : (k : ℕ) → k < l.r → get_or l.marks k false ≡ is_framed_block (get_or (held_blocks l.self l.b) k []);
}
