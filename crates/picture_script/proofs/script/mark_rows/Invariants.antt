use Rattle.std.proofs.Common.{◌≡◌, ◌≤◌, ◌⊎◌, length}
use Rattle.picture_script.proofs.RowMarks.{Marked, Unmarked}
use Rattle.picture_script.proofs.script.mark_rows.Given as goal

abbrev pub invariant-loop-r : goal.invariant-loop-r
invariant-loop-r l = record {
  unmarked : Unmarked l.initial.rows l.rows l.fn.from l.r;
  size : length l.rows ≡ 16;
  begun : l.fn.from ≤ l.r;
  within : (l.r ≡ l.fn.from) ⊎ (l.r ≤ l.fn.to);
  marked : Marked l.initial.rows l.rows l.fn.from l.r;
}
