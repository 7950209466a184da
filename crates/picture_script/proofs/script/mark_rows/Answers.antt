use Rattle.picture_script.proofs.RowMarks.{marked_to}
use Rattle.picture_script.proofs.script.mark_rows.Goals as goal

pub returns-clause-marks : goal.returns-clause-marks
returns-clause-marks c =
    marked_to c.args.rows.now c.loop-r.rows c.args.from c.loop-r.r c.args.to c.loop-r.invariant.within
    c.loop-r.invariant.marked
