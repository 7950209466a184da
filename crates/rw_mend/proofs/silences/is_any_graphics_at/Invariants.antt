use Rattle.std.proofs.Common.{◌≡◌, ℕ, ◌<◌, false}
use Rattle.rw_mend.specs.Readings.{programs_in}
use Rattle.rw_mend.specs.Candidates.{is_graphics_candidate}
use Rattle.rw_mend.specs.Words.{given_at}
use Rattle.rw_mend.proofs.silences.is_any_graphics_at.Given as goal

abbrev pub invariant-loop-s : goal.invariant-loop-s
invariant-loop-s l = record {
  none : (k : ℕ) → k < l.s → is_graphics_candidate (given_at (programs_in l.readings) k l.m) ≡ false;
}
