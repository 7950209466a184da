use Rattle.std.proofs.Common.{refl}
use Rattle.cdg_checkpoint.specs.Checkpoint.{checkpoint_in}
use Rattle.cdg_checkpoint.proofs.Written.{shows_done, shows_cut, shows_stop}
use Rattle.cdg_checkpoint.proofs.Stopping.{all_resumed_by}
use Rattle.cdg_checkpoint.proofs.OtherStops.{done_no_stop, no_less, unwritten_by, write_no_first, write_no_second}
use Rattle.cdg_checkpoint.specs.declared.stops.ResumeStop.TheVariants.{FirstFault, SecondFault, WriteFault}
use Rattle.cdg_checkpoint.proofs.checkpointer.Checkpointer.show.Goals as goal

pub returns-in-Ok-write_ppm-clause-resumes : goal.returns-in-Ok-write_ppm-clause-resumes
returns-in-Ok-write_ppm-clause-resumes g c =
    let (taken, gone) = c.in-Ok.ensures.goes_on in (
      taken,
      shows_done c.args.self.now.file c.args.at _ _ _ _ c.go_on.new.self.words.second.screen taken _ gone
          c.in-Ok-write_ppm.ensures.ok,
    )

pub returns-in-Err-write_ppm-clause-resumes : goal.returns-in-Err-write_ppm-clause-resumes
returns-in-Err-write_ppm-clause-resumes g c =
    let (taken, gone) = c.in-Ok.ensures.goes_on in (
      taken,
      shows_cut c.args.self.now.file c.args.at _ _ _ _ c.go_on.new.self.words.second.screen taken _ gone
          c.in-Err-write_ppm.ensures.part,
    )

pub returns-in-Err-clause-resumes : goal.returns-in-Err-clause-resumes
returns-in-Err-clause-resumes g c =
    let (taken, gone) = c.in-Err.ensures.goes_on in (
      taken,
      shows_stop c.args.self.now.file c.args.at _ _ _ _ c.go_on.new.self.words.second.screen taken _ gone
          c.in-Err.ensures.no_write refl,
    )

pub returns-in-Err-clause-answer : goal.returns-in-Err-clause-answer
returns-in-Err-clause-answer g c = all_resumed_by _ c.in-Err.stop _ c.args.at c.in-Err.ensures.answer

pub returns-in-Err-clause-accepted : goal.returns-in-Err-clause-accepted
returns-in-Err-clause-accepted g c = c.in-Err.ensures.accepted

pub returns-in-Err-clause-rest_reported : goal.returns-in-Err-clause-rest_reported
returns-in-Err-clause-rest_reported g c = c.in-Err.ensures.ended

pub returns-in-Ok-write_ppm-clause-answer : goal.returns-in-Ok-write_ppm-clause-answer
returns-in-Ok-write_ppm-clause-answer g c = c.in-Ok.ensures.answer

pub go_on-requires-clause-at : goal.go_on-requires-clause-at
go_on-requires-clause-at g c = c.requires.at

pub go_on-requires-clause-file : goal.go_on-requires-clause-file
go_on-requires-clause-file g c = c.requires.file

pub go_on-requires-clause-not_later : goal.go_on-requires-clause-not_later
go_on-requires-clause-not_later g c = c.requires.not_later

pub returns-in-Ok-write_ppm-clause-file : goal.returns-in-Ok-write_ppm-clause-file
returns-in-Ok-write_ppm-clause-file g c = c.in-Ok.ensures.file

pub returns-in-Ok-write_ppm-clause-accepted : goal.returns-in-Ok-write_ppm-clause-accepted
returns-in-Ok-write_ppm-clause-accepted g c = refl

pub returns-in-Ok-write_ppm-clause-second_fault : goal.returns-in-Ok-write_ppm-clause-second_fault
returns-in-Ok-write_ppm-clause-second_fault g c = record {
  later = c.in-Ok.ensures.fault.later;
  rose = λ e. absurd (done_no_stop c.in-Ok.resumed SecondFault e);
  same = λ other. c.in-Ok.ensures.fault.same (done_no_stop c.in-Ok.resumed SecondFault);
}

pub returns-in-Ok-write_ppm-clause-no_first : goal.returns-in-Ok-write_ppm-clause-no_first
returns-in-Ok-write_ppm-clause-no_first g c = done_no_stop c.in-Ok.resumed FirstFault

pub returns-in-Ok-write_ppm-clause-untouched : goal.returns-in-Ok-write_ppm-clause-untouched
returns-in-Ok-write_ppm-clause-untouched g c = tt

pub returns-in-Ok-write_ppm-clause-write_fault : goal.returns-in-Ok-write_ppm-clause-write_fault
returns-in-Ok-write_ppm-clause-write_fault g c = record {
  later = c.in-Ok-write_ppm.ensures.cause.later;
  rose = λ e. absurd (done_no_stop c.in-Ok.resumed WriteFault e);
  same = λ other. c.in-Ok-write_ppm.ensures.cause.same;
}

pub returns-in-Ok-write_ppm-clause-rest_reported : goal.returns-in-Ok-write_ppm-clause-rest_reported
returns-in-Ok-write_ppm-clause-rest_reported g c = c.in-Ok.ensures.ended

pub returns-in-Err-write_ppm-clause-file : goal.returns-in-Err-write_ppm-clause-file
returns-in-Err-write_ppm-clause-file g c = c.in-Ok.ensures.file

pub returns-in-Err-write_ppm-clause-accepted : goal.returns-in-Err-write_ppm-clause-accepted
returns-in-Err-write_ppm-clause-accepted g c = refl

pub returns-in-Err-write_ppm-clause-second_fault : goal.returns-in-Err-write_ppm-clause-second_fault
returns-in-Err-write_ppm-clause-second_fault g c = record {
  later = c.in-Ok.ensures.fault.later;
  rose = λ e. absurd (write_no_second e);
  same = λ other. c.in-Ok.ensures.fault.same (done_no_stop c.in-Ok.resumed SecondFault);
}

pub returns-in-Err-write_ppm-clause-no_first : goal.returns-in-Err-write_ppm-clause-no_first
returns-in-Err-write_ppm-clause-no_first g c = write_no_first

pub returns-in-Err-write_ppm-clause-answer : goal.returns-in-Err-write_ppm-clause-answer
returns-in-Err-write_ppm-clause-answer g c = unwritten_by _ (checkpoint_in c.args.self.now.file) c.args.at

pub returns-in-Err-write_ppm-clause-untouched : goal.returns-in-Err-write_ppm-clause-untouched
returns-in-Err-write_ppm-clause-untouched g c = λ other. absurd (other refl)

pub returns-in-Err-write_ppm-clause-write_fault : goal.returns-in-Err-write_ppm-clause-write_fault
returns-in-Err-write_ppm-clause-write_fault g c = record {
  later = c.in-Err-write_ppm.ensures.cause.later;
  rose = λ e. c.in-Err-write_ppm.ensures.cause.failed;
  same = λ other. absurd (other refl);
}

pub returns-in-Err-write_ppm-clause-rest_reported : goal.returns-in-Err-write_ppm-clause-rest_reported
returns-in-Err-write_ppm-clause-rest_reported g c = c.in-Ok.ensures.ended

pub returns-in-Err-clause-file : goal.returns-in-Err-clause-file
returns-in-Err-clause-file g c = c.in-Err.ensures.file

pub returns-in-Err-clause-no_first : goal.returns-in-Err-clause-no_first
returns-in-Err-clause-no_first g c = c.in-Err.ensures.no_first

pub returns-in-Err-clause-untouched : goal.returns-in-Err-clause-untouched
returns-in-Err-clause-untouched g c = λ other. refl

pub returns-in-Err-clause-second_fault : goal.returns-in-Err-clause-second_fault
returns-in-Err-clause-second_fault g c = c.in-Err.ensures.fault

pub returns-in-Err-clause-write_fault : goal.returns-in-Err-clause-write_fault
returns-in-Err-clause-write_fault g c = record {
  later = no_less _;
  rose = λ e. absurd (c.in-Err.ensures.no_write e);
  same = λ other. refl;
}
