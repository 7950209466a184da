use Rattle.std.proofs.Common.{subst}
use Rattle.std.proofs.lemmas.Result.{on_err_weaker, on_ok_weaker}
use Rattle.cdg_io.specs.Causes.{HasCause}
use Rattle.stream_writer.proofs.Pieces.{on_err}
use Rattle.stream_writer.proofs.Streams.{stream_put, part_of_lead_in, part_of_program}
use Rattle.stream_writer.proofs.Whole.{stream_written}
use Rattle.stream_writer.proofs.stream.write_stream.Goals as goal

pub returns-in_err-put_lead_in-clause-part : goal.returns-in_err-put_lead_in-clause-part
returns-in_err-put_lead_in-clause-part g c =
    on_err c.from_residual.result _ (part_of_lead_in _ _ _ _ _ _ c.in_err-put_lead_in.ensures.part)

pub returns-clause-part : goal.returns-clause-part
returns-clause-part g c =
    on_err_weaker c.put_program.result
    (λ part. part_of_program _ _ _ _ _ _ _ _ c.in_ok-put_lead_in.ensures.ok part)
    c.put_program.ensures.part

pub returns-clause-ok : goal.returns-clause-ok
returns-clause-ok g c =
    on_ok_weaker c.put_program.result
    (λ program. stream_written c.spread_carries.ensures _ _ _ _ _ _ c.requires.cut
    (stream_put _ _ _ _ _ _ _ c.in_ok-put_lead_in.ensures.ok c.in_ok-put_lead_in.ensures.built program))
    c.put_program.ensures.ok

pub returns-clause-cause : goal.returns-clause-cause
returns-clause-cause g c =
    subst (λ n. HasCause n (g.K.Sink.faults c.put_program.new.out) c.put_program.result)
    c.in_ok-put_lead_in.ensures.cause.same
    c.put_program.ensures.cause
