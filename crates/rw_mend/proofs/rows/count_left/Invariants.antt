use Rattle.std.proofs.Common.{◌≡◌, ℕ, ◌+◌, ◌<◌, length, get_or}
use Rattle.std.specs.List.{list_any}
use Rattle.std.specs.Prelude.{if◌then◌else◌}
use Rattle.rw_mend.specs.Choice.{candidate_of_reading}
use Rattle.rw_mend.specs.Silences.{is_left, no_silence}
use Rattle.rw_mend.specs.Candidates.{is_quiet_candidate}
use Rattle.rw_mend.proofs.rows.count_left.Given as goal

abbrev pub invariant-loop-r : goal.invariant-loop-r
invariant-loop-r l = record {
  size : length l.counts ≡ length l.initial.counts;
  each : (k : ℕ) → k < l.r → get_or l.counts k 0
      ≡ get_or l.initial.counts k 0
      + (if is_left (list_any is_quiet_candidate l.row) (get_or l.silences k no_silence)
      (candidate_of_reading l.row k)
      then 1 else 0);
  later : (k : ℕ) → l.r < k + 1 → get_or l.counts k 0 ≡ get_or l.initial.counts k 0;
}
