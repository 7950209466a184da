use Rattle.std.proofs.Common.{◌≡◌, ℕ, ◌+◌, ◌<◌, length, get_or}
use Rattle.rw_mend.specs.Readings.{programs_in}
use Rattle.rw_mend.specs.Silences.{IsCalm, IsSilence, no_silence}
use Rattle.rw_mend.proofs.silences.advance_all.Given as goal

abbrev pub invariant-loop-r : goal.invariant-loop-r
invariant-loop-r l = record {
  size : length l.silences ≡ length l.initial.silences;
  done : (k : ℕ) → k < l.r
      → IsSilence l.words (programs_in l.readings) k (l.n + 1) (get_or l.silences k no_silence);
  later : (k : ℕ) → l.r < k + 1 → get_or l.silences k no_silence ≡ get_or l.initial.silences k no_silence;
  calm : IsCalm (programs_in l.readings) l.n l.calm;
}
