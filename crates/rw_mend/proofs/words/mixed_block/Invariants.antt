use Rattle.std.proofs.Common.{◌≡◌, ◌<◌, ◌/◌, ◌%◌, ℕ, length, get_or}
use Rattle.std.specs.Prelude.{None}
use Rattle.rw_mend.specs.Chosen.{symbol_or}
use Rattle.rw_mend.proofs.words.mixed_block.Given as goal

abbrev pub invariant-loop-k : goal.invariant-loop-k
invariant-loop-k l = record {
  size : length l.block ≡ 96;
  high : (j : ℕ) → j < l.k → get_or l.block j 0 / 64 ≡ get_or l.framed j 0 / 64;
  low : (j : ℕ) → j < l.k → get_or l.block j 0 % 64 ≡ symbol_or (get_or l.known j None) (get_or l.read j 0);
}
