use Rattle.std.proofs.Common.{ap, refl}
use Rattle.cdg_io.specs.Reads.{input}
use Rattle.cdg_cmd.proofs.ResumeReported.{never_memory, reads_second, reported, untouched}
use Rattle.cdg_cmd.proofs.Allocations as allocations
use Rattle.cdg_cmd.proofs.packs.run_resume.Goals as goal

pub returns-in-Ok-clause-does : goal.returns-in-Ok-clause-does
returns-in-Ok-clause-does g c = λ found.
    let done = c.resume.ensures in
    record {
      answer = c.resume.result;
      status_is = c.resume_status.ensures;
      file = c.resume.new.self.file;
      most = done.reads.most;
      taken = done.reads.taken;
      cut = done.reads.cut;
      whole = done.reads.end;
      accepted = done.accepted;
      goes_on = done.resumes;
      exactly = done.answer;
    }

pub returns-in-Ok-clause-untouched : goal.returns-in-Ok-clause-untouched
returns-in-Ok-clause-untouched g c =
    untouched c.resume.result _ _ _ c.resume_status.ensures c.resume.ensures.untouched

pub returns-in-Ok-clause-second : goal.returns-in-Ok-clause-second
returns-in-Ok-clause-second g c =
    let done = c.resume.ensures in
    let first = input g.S.Source c.args.first.now c.resume.new.saved in
    reads_second _ _ c.args.at first c.resume.new.self.file c.resume.result done.rest_untouched done.accepted
    done.reads.taken done.reads.end done.reads.reported

pub returns-in-Ok-clause-ended : goal.returns-in-Ok-clause-ended
returns-in-Ok-clause-ended g c = λ found.
    let done = c.resume.ensures in
    record {
      answer = c.resume.result;
      status_is = c.resume_status.ensures;
      file = c.resume.new.self.file;
      accepted = done.accepted;
      reads = done.reads;
      unread = λ refused. ap g.T.Source.ends (done.rest_untouched refused);
      ended = done.rest_reported;
    }

pub returns-in-Ok-clause-faults : goal.returns-in-Ok-clause-faults
returns-in-Ok-clause-faults g c =
    let done = c.resume.ensures in
    reported c.resume.result _ _ _ _ _ _ _ c.resume_status.ensures done.faults.first done.faults.second
    done.faults.write

pub returns-in-Ok-clause-allocations : goal.returns-in-Ok-clause-allocations
returns-in-Ok-clause-allocations g c =
    allocations.found_first _ _ _ c.in-Ok.checkpointer _ c.in-Ok.ensures.counted
    (never_memory c.resume.result _ c.resume_status.ensures)

pub returns-in-Err-clause-allocations : goal.returns-in-Err-clause-allocations
returns-in-Err-clause-allocations g c = allocations.lacked_first _ _ _ _ refl c.in-Err.ensures.counted
