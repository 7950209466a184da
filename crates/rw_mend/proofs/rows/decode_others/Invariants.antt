use Rattle.std.proofs.Common.{◌≡◌, ℕ, ◌+◌, ◌/◌, ◌<◌, length, get_or}
use Rattle.rw_mend.specs.Choice.{candidate_of_reading}
use Rattle.rw_mend.specs.Readings.{program_in}
use Rattle.rw_mend.specs.Rows.{no_history}
use Rattle.rw_mend.specs.Histories.{AreSameFrom, IsHistory}
use Rattle.rw_mend.specs.Candidates.{candidate_of}
use Rattle.rw_mend.specs.Words.{reading_at}
use Rattle.rw_mend.proofs.rows.decode_others.Given as goal

abbrev pub invariant-loop-r : goal.invariant-loop-r
invariant-loop-r l = record {
  least : 0 < l.r;
  histories_size : length l.histories ≡ length l.initial.histories;
  row_size : length l.row.candidates ≡ 254;
  same_size : length l.same_from ≡ length l.initial.same_from;
  untouched : (k : ℕ) → l.r < k + 1
      → get_or l.histories k no_history ≡ get_or l.initial.histories k no_history;
  same_untouched : (k : ℕ) → l.r < k + 1 → get_or l.same_from k 0 ≡ get_or l.initial.same_from k 0;
  histories : (k : ℕ) → k < l.r → IsHistory (program_in l.readings k) l.n (get_or l.histories k no_history);
  same : (k : ℕ) → k < l.r → AreSameFrom (program_in l.readings 0) (program_in l.readings k)
      ((l.n + 7) / 4 + 1) (get_or l.same_from k 0);
  decoded : (k : ℕ) → k < l.r
      → candidate_of_reading l.row.candidates k ≡ candidate_of (reading_at (program_in l.readings k) l.n);
}
