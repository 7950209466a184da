use Rattle.std.proofs.Common.{◌≡◌, ◌-◌, ◌≤◌, length, take, drop}
use Rattle.cdg_io.specs.Run.{run_state, run_gives}
use Rattle.cdg_workload.specs.Steps.{byte_next, byte_gives}
use Rattle.cdg_workload.proofs.needle.Needle.scratch_all.Given as goal

abbrev pub invariant-loop-at : goal.invariant-loop-at
invariant-loop-at l = record {
  size : length l.bytes ≡ length l.fn.bytes;
  within : l.at ≤ length l.bytes;
  now : l.self ≡ run_state byte_next l.fn.self (take l.at l.fn.bytes);
  done : take l.at l.bytes ≡ run_gives byte_next byte_gives l.fn.self (take l.at l.fn.bytes);
  rest : drop l.at l.bytes ≡ drop l.at l.fn.bytes;
}

abbrev pub decreases-loop-at : goal.decreases-loop-at
decreases-loop-at l = length l.initial.bytes - l.at
