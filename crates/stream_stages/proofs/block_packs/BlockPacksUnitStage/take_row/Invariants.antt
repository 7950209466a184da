use Rattle.std.proofs.Common.{◌-◌, ◌≡◌, ◌≤◌, ℕ, List, drop, length, take, Some}
use Rattle.cdg_io.specs.Change.{from_to}
use Rattle.cdg_io.specs.Pump.{Works}
use Rattle.stream_stages.specs.Steps.{packs_next, packs_give}
use Rattle.stream_stages.proofs.block_packs.BlockPacksUnitStage.take_row.Given as goal

abbrev pub invariant-loop-units : goal.invariant-loop-units
invariant-loop-units l = record {
  works : (taken : List ℕ)
      × Works 96 (record { next = packs_next; gives = packs_give })
      (record {
        left = from_to (Some l.initial.row.now) (Some l.row.now);
        state = from_to l.initial.self l.self;
        held = from_to (Some (take l.start l.initial.buffer)) (Some (take l.end l.buffer));
      }) l.units taken;
  order : l.start ≤ l.end;
  within : l.end ≤ length l.buffer;
  most : l.units ≤ l.most;
  behind : drop l.end l.buffer ≡ drop l.end l.initial.buffer;
}

abbrev pub decreases-loop-units : goal.decreases-loop-units
decreases-loop-units l = l.most - l.units
