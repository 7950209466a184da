use Rattle.picture_script.specs.DrawnRows.{LeavesRows, MarksRows}
use Rattle.picture_script.proofs.script.Script.drawn_rows.Given as goal

abbrev pub invariant-loop-i : goal.invariant-loop-i
invariant-loop-i l = record {
  leaves : LeavesRows l.self l.from l.i l.rows;
  marks : MarksRows l.self l.from l.i l.rows;
}
