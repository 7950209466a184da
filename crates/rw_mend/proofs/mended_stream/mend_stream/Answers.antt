use Rattle.rw_mend.proofs.mended_stream.mend_stream.Goals as goal

pub returns : goal.returns
returns c = c.mend_stream_report.ensures.into
