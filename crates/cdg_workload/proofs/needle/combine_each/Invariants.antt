use Rattle.std.proofs.Common.{◌≡◌, ◌≤◌, ◌-◌, ◌++◌, length, take, drop, map, bit_xor}
use Rattle.cdg_workload.proofs.needle.combine_each.Given as goal

abbrev pub invariant-loop-i : goal.invariant-loop-i
invariant-loop-i l = record {
  size : length l.bytes ≡ length l.fn.bytes;
  begun : l.from ≤ l.i;
  within : l.i ≤ l.to;
  changed : take l.i l.bytes ≡ take l.from l.fn.bytes ++ map (λ byte. bit_xor byte l.change)
      (take (l.i - l.from) (drop l.from l.fn.bytes));
  rest : drop l.i l.bytes ≡ drop l.i l.fn.bytes;
}
