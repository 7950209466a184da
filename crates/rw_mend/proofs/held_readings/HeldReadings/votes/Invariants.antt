use Rattle.std.proofs.Common.{◌≡◌, ◌≤◌, take}
use Rattle.std.specs.Prelude.{◌&&◌, count_by}
use Rattle.std.specs.Str.{bytes_eq}
use Rattle.rw_mend.specs.HeldReadings.{held_blocks, is_eligible_for, part_of}
use Rattle.rw_mend.proofs.held_readings.HeldReadings.votes.Given as goal

abbrev pub invariant-loop-r : goal.invariant-loop-r
invariant-loop-r l = record {
  few : l.votes ≤ l.r;
  count : l.votes
      ≡ count_by (λ block. is_eligible_for l.part (held_blocks l.self l.b) block
      && bytes_eq (part_of l.part block) l.own) (take l.r (held_blocks l.self l.b));
}
