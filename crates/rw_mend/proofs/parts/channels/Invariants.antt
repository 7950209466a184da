use Rattle.std.proofs.Common.{◌≡◌, ◌<◌, ◌/◌, ℕ, length, get_or}
use Rattle.rw_mend.proofs.parts.channels.Given as goal

abbrev pub invariant-loop-k : goal.invariant-loop-k
invariant-loop-k l = record {
  size : length l.channels ≡ 96;
  each : (j : ℕ) → j < l.k → get_or l.channels j 0 ≡ get_or l.block j 0 / 64;
}
