use Rattle.std.proofs.Common.{◌≡◌, ℕ, ◌<◌, length, get_or}
use Rattle.std.specs.List.{list_any}
use Rattle.rw_mend.specs.Choice.{candidate_of_reading}
use Rattle.rw_mend.specs.Silences.{no_silence, said_after}
use Rattle.rw_mend.specs.Candidates.{is_quiet_candidate}
use Rattle.rw_mend.proofs.rows.say_all.Given as goal

abbrev pub invariant-loop-r : goal.invariant-loop-r
invariant-loop-r l = record {
  size : length l.said ≡ length l.initial.said;
  each : (k : ℕ) → k < l.r → candidate_of_reading l.said k
      ≡ said_after (list_any is_quiet_candidate l.row) (get_or l.silences k no_silence)
      (candidate_of_reading l.row k);
}
