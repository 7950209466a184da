use Rattle.std.proofs.Common.{refl}
use Rattle.cdg_io.specs.Change.{passed}
use Rattle.cdg_io.specs.Reads.{input}
use Rattle.cdg_checkpoint.proofs.Stopping.{refused, refused_not_accepted}
use Rattle.cdg_checkpoint.proofs.OtherStops.{accepted_by, accepted_no_stop, accepted_not_refused, answer_still, no_less, other_stop, reads_on, reads_stopped, refused_no_second, refused_no_write, resumes_still, same_stop}
use Rattle.cdg_checkpoint.specs.declared.stops.ResumeStop.TheVariants.{FirstFault}
use Rattle.cdg_checkpoint.proofs.checkpointer.Checkpointer.resume.Goals as goal

pub returns-in-Err-clause-accepted : goal.returns-in-Err-clause-accepted
returns-in-Err-clause-accepted g c =
    refused c.in-Err.stop c.args.at c.accept.new.self.file c.in-Err.ensures.accepted

pub returns-in-Err-clause-resumes : goal.returns-in-Err-clause-resumes
returns-in-Err-clause-resumes g c =
    refused_not_accepted c.in-Err.stop c.args.at c.accept.new.self.file _ c.in-Err.ensures.accepted

pub returns-in-Err-clause-answer : goal.returns-in-Err-clause-answer
returns-in-Err-clause-answer g c =
    refused_not_accepted c.in-Err.stop c.args.at c.accept.new.self.file _ c.in-Err.ensures.accepted

pub returns-in-Err-clause-rest_reported : goal.returns-in-Err-clause-rest_reported
returns-in-Err-clause-rest_reported g c =
    refused_not_accepted c.in-Err.stop c.args.at c.accept.new.self.file _ c.in-Err.ensures.accepted

pub show-requires-clause-at : goal.show-requires-clause-at
show-requires-clause-at g c = c.requires

pub show-requires-clause-file : goal.show-requires-clause-file
show-requires-clause-file g c = c.in-Ok.ensures.accepted.0

pub show-requires-clause-not_later : goal.show-requires-clause-not_later
show-requires-clause-not_later g c = c.in-Ok.ensures.accepted.1

pub returns-in-Ok-clause-accepted : goal.returns-in-Ok-clause-accepted
returns-in-Ok-clause-accepted g c =
    accepted_by c.show.result c.args.at c.accept.new.self.file c.show.new.self.file c.show.ensures.accepted
    c.show.ensures.file c.in-Ok.ensures.accepted

pub returns-in-Ok-clause-rest_untouched : goal.returns-in-Ok-clause-rest_untouched
returns-in-Ok-clause-rest_untouched g c = λ refused. accepted_not_refused _ _ c.show.ensures.accepted refused

pub returns-in-Ok-clause-resumes : goal.returns-in-Ok-clause-resumes
returns-in-Ok-clause-resumes g c = λ ok. let (taken, w) = c.show.ensures.resumes in (
  taken,
  resumes_still c.accept.new.self.file c.show.new.self.file c.args.at
      (passed g.T.Source.left g.K.Sink.held (c.args.rest.now, c.args.out.now)
      (c.show.new.rest, c.show.new.out))
      c.show.result taken c.show.ensures.file w,
)

pub returns-in-Ok-clause-answer : goal.returns-in-Ok-clause-answer
returns-in-Ok-clause-answer g c =
    λ ok. answer_still _ c.accept.new.self.file c.show.new.self.file c.args.at c.show.result
    c.show.ensures.file c.show.ensures.answer

pub returns-in-Ok-clause-untouched : goal.returns-in-Ok-clause-untouched
returns-in-Ok-clause-untouched g c = c.show.ensures.untouched

pub returns-in-Ok-clause-rest_reported : goal.returns-in-Ok-clause-rest_reported
returns-in-Ok-clause-rest_reported g c = λ ok. c.show.ensures.rest_reported

pub returns-in-Err-clause-rest_untouched : goal.returns-in-Err-clause-rest_untouched
returns-in-Err-clause-rest_untouched g c = λ refused. refl

pub returns-in-Err-clause-untouched : goal.returns-in-Err-clause-untouched
returns-in-Err-clause-untouched g c = λ other. refl

pub returns-in-Ok-clause-reads : goal.returns-in-Ok-clause-reads
returns-in-Ok-clause-reads g c =
    let first = input g.S.Source c.args.saved.now c.accept.new.saved in
    reads_on first c.show.result c.accept.new.self.file c.show.new.self.file c.show.ensures.file
    c.show.ensures.no_first c.in-Ok.ensures.reads

pub returns-in-Err-clause-reads : goal.returns-in-Err-clause-reads
returns-in-Err-clause-reads g c =
    let first = input g.S.Source c.args.saved.now c.accept.new.saved in
    reads_stopped first c.in-Err.stop c.accept.new.self.file c.in-Err.ensures.reads

pub returns-in-Ok-clause-faults : goal.returns-in-Ok-clause-faults
returns-in-Ok-clause-faults g c = record {
  first = record {
    later = c.in-Ok.ensures.fault.later;
    rose = λ e. absurd (c.show.ensures.no_first e);
    same = λ other. c.in-Ok.ensures.fault.same (accepted_no_stop _ FirstFault);
  };
  second = c.show.ensures.second_fault;
  write = c.show.ensures.write_fault;
}

pub returns-in-Err-clause-faults : goal.returns-in-Err-clause-faults
returns-in-Err-clause-faults g c =
    let file = c.accept.new.self.file in
    let refused = c.in-Err.ensures.accepted in
    record {
      first = record {
        later = c.in-Err.ensures.fault.later;
        rose = λ e. c.in-Err.ensures.fault.rose (same_stop c.in-Err.stop FirstFault e);
        same = λ other. c.in-Err.ensures.fault.same (other_stop c.in-Err.stop FirstFault other);
      };
      second = record {
        later = no_less _;
        rose = λ e. absurd (refused_no_second c.in-Err.stop c.args.at file refused e);
        same = λ other. refl;
      };
      write = record {
        later = no_less _;
        rose = λ e. absurd (refused_no_write c.in-Err.stop c.args.at file refused e);
        same = λ other. refl;
      };
    }
