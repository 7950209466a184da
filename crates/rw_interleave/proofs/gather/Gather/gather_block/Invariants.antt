use Rattle.std.proofs.Common.{◌≡◌, ◌+◌, drop, length}
use Rattle.rw_interleave.proofs.gather.Gather.gather_block.Given as goal

abbrev pub invariant-loop : goal.invariant-loop
invariant-loop l = record {
  words : l.words.items ≡ drop l.counter l.initial.words.items;
  size : length l.words.items + l.counter ≡ 4;
}
