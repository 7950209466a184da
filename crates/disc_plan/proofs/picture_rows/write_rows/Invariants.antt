use Rattle.std.proofs.Common.{◌≡◌}
use Rattle.picture_script.specs.ShowLines.{show_lines}
use Rattle.disc_plan.proofs.RowLaws.{IsWriting}
use Rattle.disc_plan.proofs.picture_rows.write_rows.Given as goal

abbrev pub invariant-loop-k : goal.invariant-loop-k
invariant-loop-k l = IsWriting l.script (show_lines l.text) l.initial.rows l.k l.lines l.rows l.late
    × (l.planner.script ≡ l.script) × (l.planner.given ≡ l.k)
