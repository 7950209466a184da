use Rattle.std.proofs.Common.{◌≡◌, ℕ, ◌+◌, ◌<◌, length, get_or}
use Rattle.std.specs.Prelude.{if◌then◌else◌}
use Rattle.rw_mend.specs.Choice.{candidate_of_reading}
use Rattle.rw_mend.specs.Losses.{is_lost}
use Rattle.rw_mend.proofs.losses.count_lost.Given as goal

abbrev pub invariant-loop-r : goal.invariant-loop-r
invariant-loop-r l = record {
  size : length l.lost ≡ length l.initial.lost;
  each : (k : ℕ) → k < l.r → get_or l.lost k 0
      ≡ get_or l.initial.lost k 0
      + (if is_lost l.found (candidate_of_reading l.candidates k) then 1 else 0);
  later : (k : ℕ) → l.r < k + 1 → get_or l.lost k 0 ≡ get_or l.initial.lost k 0;
}
