use Rattle.std.proofs.Common.{◌≡◌, ℕ, ◌-◌, ◌<◌, ◌≤◌, true}
use Rattle.rw_mend.specs.Drops.{Misses}
use Rattle.rw_mend.specs.Readings.{program_in, programs_in}
use Rattle.rw_mend.specs.Silences.{IsCalm}
use Rattle.rw_mend.specs.Histories.{IsHistory}
use Rattle.rw_mend.specs.Candidates.{is_quiet_candidate}
use Rattle.rw_mend.specs.Words.{given_at}
use Rattle.rw_mend.proofs.silences.will_miss.Given as goal

abbrev pub invariant-loop-m : goal.invariant-loop-m
invariant-loop-m l = record {
  from : l.n < l.m;
  quiet : (k : ℕ) → l.n ≤ k → k < l.m → is_quiet_candidate (given_at (programs_in l.readings) l.r k) ≡ true;
  none : (k : ℕ) → l.n ≤ k → k < l.m → ¬ Misses (programs_in l.readings) l.r k;
  history : IsHistory (program_in l.readings l.r) (l.m - 1) l.history;
  calm : IsCalm (programs_in l.readings) l.n l.calm;
}
