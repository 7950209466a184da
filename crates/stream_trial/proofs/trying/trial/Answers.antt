use Rattle.std.proofs.Common.{◌∙◌, refl}
use Rattle.stream_trial.proofs.Trials.{done_no_stop, put_text, put_part, write_no_memory}
use Rattle.stream_trial.specs.declared.trying.TrialStop.TheVariants.{NoMemory, WriteFault}
use Rattle.stream_trial.proofs.trying.trial.Goals as goal

pub returns-in-Ok-clause-written : goal.returns-in-Ok-clause-written
returns-in-Ok-clause-written g c = record {
  lines = put_text c.args.seed c.args.pictures _ c.in_ok-report.report _ _
      (c.as_bytes.ensures.value ∙ c.as_str.ensures.value
      ∙ c.lines-lines.ensures) c.in_ok-report.ensures.report c.in-Ok.ensures.ok;
  write_fault = record {
    later = c.in-Ok.ensures.cause.later;
    rose = λ e. absurd (done_no_stop WriteFault e);
    same = λ other. c.in-Ok.ensures.cause.same;
  };
  part = λ e. absurd (done_no_stop WriteFault e);
  untouched = λ e. absurd (done_no_stop NoMemory e);
}

pub returns-in-Err-clause-written : goal.returns-in-Err-clause-written
returns-in-Err-clause-written g c = record {
  lines = tt;
  write_fault = record {
    later = c.in-Err.ensures.cause.later;
    rose = λ e. c.in-Err.ensures.cause.failed;
    same = λ other. absurd (other refl);
  };
  part = λ e. put_part c.args.seed c.args.pictures _ c.in_ok-report.report _ _
      (c.as_bytes.ensures.value ∙ c.as_str.ensures.value
      ∙ c.lines-lines.ensures) c.in_ok-report.ensures.report c.in-Err.ensures.part;
  untouched = λ e. absurd (write_no_memory e);
}
