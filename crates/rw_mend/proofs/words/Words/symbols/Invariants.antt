use Rattle.std.proofs.Common.{◌≡◌, ◌<◌, ◌+◌, ◌*◌, ℕ, length, get_or}
use Rattle.std.specs.Prelude.{None}
use Rattle.rw_mend.specs.Symbols.{held_symbol}
use Rattle.rw_mend.proofs.words.Words.symbols.Given as goal

abbrev pub invariant-loop-k : goal.invariant-loop-k
invariant-loop-k l = record {
  size : length l.symbols ≡ 96;
  each : (j : ℕ) → j < l.k → get_or l.symbols j None ≡ held_symbol l.self l.text (96 * l.b + j);
}
