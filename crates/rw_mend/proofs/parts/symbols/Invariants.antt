use Rattle.std.proofs.Common.{◌≡◌, ◌<◌, ℕ, length, get_or}
use Rattle.std.specs.Prelude.{None}
use Rattle.rw_mend.specs.Chosen.{symbol_or}
use Rattle.rw_mend.proofs.parts.symbols.Given as goal

abbrev pub invariant-loop-k : goal.invariant-loop-k
invariant-loop-k l = record {
  size : length l.symbols ≡ 96;
  each : (j : ℕ) → j < l.k
      → get_or l.symbols j 0 ≡ symbol_or (get_or l.known j None) (get_or l.block j 0);
}
