use Rattle.std.proofs.Common.{◌≡◌, ◌<◌, ◌+◌, ◌*◌, ◌/◌, ◌%◌, ℕ, length, get_or}
use Rattle.std.specs.Prelude.{Some}
use Rattle.rw_mend.specs.Symbols.{held_symbol}
use Rattle.rw_mend.proofs.words.Words.mended_block.Given as goal

abbrev pub invariant-loop-k : goal.invariant-loop-k
invariant-loop-k l = record {
  size : length l.block ≡ 96;
  high : (j : ℕ) → j < l.k → get_or l.block j 0 / 64 ≡ get_or l.framed j 0 / 64;
  low : (j : ℕ) → j < l.k → held_symbol l.self l.text (96 * l.b + j) ≡ Some (get_or l.block j 0 % 64);
}
