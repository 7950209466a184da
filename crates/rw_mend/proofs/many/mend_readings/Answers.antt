use Rattle.rw_mend.proofs.many.mend_readings.Goals as goal

pub returns : goal.returns
returns c = c.mend_report.ensures.into
