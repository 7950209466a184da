use Rattle.std.proofs.Common.{◌-◌, ◌+◌, ◌≤◌, ap, ap₂, arith, refl, sym, subst, Result, Err}
use Rattle.cdg_io.specs.declared.pumping.Pumped.{Pumped}
use Rattle.cdg_io.specs.declared.pumping.PumpStop.{PumpStop}
use Rattle.cdg_checkpoint.specs.Checkpoint.{checkpoint_in}
use Rattle.cdg_checkpoint.proofs.Reached.{brought_back, goes_on, reached_by, sound_file, torn_by}
use Rattle.cdg_checkpoint.proofs.Stopping.{ends_as_reached, first_is_not_past, gone_on_to_stop, reached_is_not, write_is_not_past}
use Rattle.cdg_checkpoint.proofs.OtherStops.{done_no_read, fault_by, is_read, long_by, long_no_first, long_no_read, long_no_second, long_no_write, second_is_not_past, second_no_first, second_no_write, reported_by, torn_no_first, torn_no_read, torn_no_second, torn_no_write}
use Rattle.cdg_checkpoint.proofs.checkpointer.Checkpointer.go_on.Goals as goal

abbrev error : PumpStop → Result Pumped PumpStop
error stop = Err stop

pub overflow_add-read : goal.overflow_add-read
overflow_add-read g c = omega (
  arith,
  (c.requires.file.ranges.1.1.1.0 0 (omega arith)).0,
  c.counts-counts.ensures.lead_in,
  c.counts-counts.ensures.program,
)

pub overflow_sub-read : goal.overflow_sub-read
overflow_sub-read g c = omega (
  arith,
  (c.requires.file.ranges.1.1.1.0 0 (omega arith)).0,
  c.counts-counts.ensures.lead_in,
  c.counts-counts.ensures.program,
)

pub overflow_add-result : goal.overflow_add-result
overflow_add-result g c =
    let (taken, w) = c.in-Err.ensures.watches in
    omega (
      arith,
      (w.torn c.in-Torn.unit (ap error c.in-Torn.is)).1,
      (c.requires.file.ranges.1.1.1.0 0 (omega arith)).0,
      c.counts-counts.ensures.lead_in,
      c.counts-counts.ensures.program,
    )

pub returns-in-Ok-clause-goes_on : goal.returns-in-Ok-clause-goes_on
returns-in-Ok-clause-goes_on g c =
    let (taken, w) = c.in-Ok.ensures.watches in (
      taken,
      goes_on (checkpoint_in c.args.self.now.file) c.args.at _ _ _ taken c.begin_again.new.self.words
          c.watch_some.new.stage c.in-Ok.pumped (sound_file c.args.self.now.file c.requires.file)
          (brought_back (checkpoint_in c.args.self.now.file) c.args.at _ _ c.begin_again.new.self.words
          c.begin_again.ensures.words c.counts-counts.ensures.to_come c.begin_again.ensures.left
          c.begin_again.ensures.bad c.counts-counts.ensures.bad c.begin_again.ensures.stands)
          (ap₂ (λ a b. 1000000 - (a + b)) c.counts-counts.ensures.lead_in c.counts-counts.ensures.program) w _
          _ _ c.counts-counts.ensures.to_come c.counts-counts.ensures.program c.resumed.ensures.answer,
    )

pub returns-in-Ok-clause-answer : goal.returns-in-Ok-clause-answer
returns-in-Ok-clause-answer g c =
    reached_by (checkpoint_in c.args.self.now.file) c.args.at _ _ _ _ c.in-Ok.pumped _ _
    (ap₂ (λ a b. 1000000 - (a + b)) c.counts-counts.ensures.lead_in c.counts-counts.ensures.program)
    c.counts-counts.ensures.to_come c.counts-counts.ensures.program
    c.resumed.ensures.answer c.in-Ok.ensures.reads.answer

pub returns-in-Torn-clause-answer : goal.returns-in-Torn-clause-answer
returns-in-Torn-clause-answer g c =
    torn_by (checkpoint_in c.args.self.now.file) c.args.at _ _ c.in-Torn.unit _ c.in-Err.stop c.in-Torn.is
    (ap₂ (λ a b. 1000000 - (a + b)) c.counts-counts.ensures.lead_in c.counts-counts.ensures.program)
    (ap₂ (λ a b. a + b) c.counts-counts.ensures.lead_in c.counts-counts.ensures.program)
    c.in-Err.ensures.reads.answer

pub returns-in-ReadFault-clause-goes_on : goal.returns-in-ReadFault-clause-goes_on
returns-in-ReadFault-clause-goes_on g c =
    let (taken, w) = c.in-Err.ensures.watches in (
      taken,
      gone_on_to_stop (checkpoint_in c.args.self.now.file) c.args.at _ _ _ taken c.begin_again.new.self.words
          c.watch_some.new.stage c.in-Err.stop _
          (ap₂ (λ a b. 1000000 - (a + b)) c.counts-counts.ensures.lead_in c.counts-counts.ensures.program) w
          (λ block e. absurd (cc)) (λ blocks e. (cc)),
    )

pub returns-in-Torn-clause-goes_on : goal.returns-in-Torn-clause-goes_on
returns-in-Torn-clause-goes_on g c =
    let (taken, w) = c.in-Err.ensures.watches in (
      taken,
      gone_on_to_stop (checkpoint_in c.args.self.now.file) c.args.at _ _ _ taken c.begin_again.new.self.words
          c.watch_some.new.stage c.in-Err.stop _
          (ap₂ (λ a b. 1000000 - (a + b)) c.counts-counts.ensures.lead_in c.counts-counts.ensures.program) w
          (λ block e. (w.torn c.in-Torn.unit (ap error c.in-Torn.is)).0) (λ blocks e. (cc)),
    )

pub returns-in-TooLong-clause-goes_on : goal.returns-in-TooLong-clause-goes_on
returns-in-TooLong-clause-goes_on g c =
    let (taken, w) = c.in-Err.ensures.watches in (
      taken,
      gone_on_to_stop (checkpoint_in c.args.self.now.file) c.args.at _ _ _ taken c.begin_again.new.self.words
          c.watch_some.new.stage c.in-Err.stop _
          (ap₂ (λ a b. 1000000 - (a + b)) c.counts-counts.ensures.lead_in c.counts-counts.ensures.program) w
          (λ block e. absurd (cc)) (λ blocks e. (cc)),
    )

pub returns-in-Ok-clause-ended : goal.returns-in-Ok-clause-ended
returns-in-Ok-clause-ended g c =
    ends_as_reached c.resumed.result _ c.args.at _ _ _ c.resumed.ensures.answer c.in-Ok.ensures.reads.ended

pub returns-in-Ok-clause-no_write : goal.returns-in-Ok-clause-no_write
returns-in-Ok-clause-no_write g c =
    reached_is_not c.resumed.result _ c.args.at _ _ c.resumed.ensures.answer write_is_not_past

pub returns-in-Ok-clause-no_first : goal.returns-in-Ok-clause-no_first
returns-in-Ok-clause-no_first g c =
    reached_is_not c.resumed.result _ c.args.at _ _ c.resumed.ensures.answer first_is_not_past

pub begin_again-requires-clause-at : goal.begin_again-requires-clause-at
begin_again-requires-clause-at g c = c.requires.at

pub begin_again-requires-clause-file : goal.begin_again-requires-clause-file
begin_again-requires-clause-file g c = c.requires.file

pub begin_again-requires-clause-to_come : goal.begin_again-requires-clause-to_come
begin_again-requires-clause-to_come g c = c.counts-counts.ensures.to_come

pub begin_again-requires-clause-program : goal.begin_again-requires-clause-program
begin_again-requires-clause-program g c = c.counts-counts.ensures.program

pub begin_again-requires-clause-not_later : goal.begin_again-requires-clause-not_later
begin_again-requires-clause-not_later g c =
    subst (λ n. n ≤ c.args.at) (sym c.counts-counts.ensures.program) c.requires.not_later

pub returns-in-Ok-clause-file : goal.returns-in-Ok-clause-file
returns-in-Ok-clause-file g c = c.begin_again.ensures.file

pub returns-in-Ok-clause-fault : goal.returns-in-Ok-clause-fault
returns-in-Ok-clause-fault g c = record {
  later = c.in-Ok.ensures.reads.read_fault.later;
  rose =
      λ e.
      absurd (reached_is_not c.resumed.result _ c.args.at _ _ c.resumed.ensures.answer second_is_not_past e);
  same = λ other. c.in-Ok.ensures.reads.read_fault.same (done_no_read c.in-Ok.pumped);
}

pub returns-in-Ok-clause-accepted : goal.returns-in-Ok-clause-accepted
returns-in-Ok-clause-accepted g c = c.resumed.ensures.accepted

pub returns-in-ReadFault-clause-answer : goal.returns-in-ReadFault-clause-answer
returns-in-ReadFault-clause-answer g c = fault_by _ (checkpoint_in c.args.self.now.file) c.args.at

pub returns-in-ReadFault-clause-file : goal.returns-in-ReadFault-clause-file
returns-in-ReadFault-clause-file g c = c.begin_again.ensures.file

pub returns-in-ReadFault-clause-fault : goal.returns-in-ReadFault-clause-fault
returns-in-ReadFault-clause-fault g c = record {
  later = c.in-Err.ensures.reads.read_fault.later;
  rose = λ e. let (taken, w) = c.in-Err.ensures.watches in
      c.in-Err.ensures.reads.read_fault.rose (is_read c.in-Err.stop c.in-ReadFault.is w.no_write);
  same = λ other. absurd (other refl);
}

pub returns-in-ReadFault-clause-ended : goal.returns-in-ReadFault-clause-ended
returns-in-ReadFault-clause-ended g c = let (taken, w) = c.in-Err.ensures.watches in
    reported_by c.in-Err.stop _ _ _ (is_read c.in-Err.stop c.in-ReadFault.is w.no_write)
    c.in-Err.ensures.reads.ended

pub returns-in-ReadFault-clause-no_write : goal.returns-in-ReadFault-clause-no_write
returns-in-ReadFault-clause-no_write g c = second_no_write

pub returns-in-ReadFault-clause-no_first : goal.returns-in-ReadFault-clause-no_first
returns-in-ReadFault-clause-no_first g c = second_no_first

pub returns-in-ReadFault-clause-accepted : goal.returns-in-ReadFault-clause-accepted
returns-in-ReadFault-clause-accepted g c = refl

pub returns-in-Torn-clause-file : goal.returns-in-Torn-clause-file
returns-in-Torn-clause-file g c = c.begin_again.ensures.file

pub returns-in-Torn-clause-fault : goal.returns-in-Torn-clause-fault
returns-in-Torn-clause-fault g c = record {
  later = c.in-Err.ensures.reads.read_fault.later;
  rose = λ e. absurd (torn_no_second _ e);
  same =
      λ other.
      c.in-Err.ensures.reads.read_fault.same (torn_no_read c.in-Err.stop c.in-Torn.unit c.in-Torn.is);
}

pub returns-in-Torn-clause-ended : goal.returns-in-Torn-clause-ended
returns-in-Torn-clause-ended g c =
    reported_by c.in-Err.stop _ _ _ (ap error c.in-Torn.is) c.in-Err.ensures.reads.ended

pub returns-in-Torn-clause-no_write : goal.returns-in-Torn-clause-no_write
returns-in-Torn-clause-no_write g c = torn_no_write _

pub returns-in-Torn-clause-no_first : goal.returns-in-Torn-clause-no_first
returns-in-Torn-clause-no_first g c = torn_no_first _

pub returns-in-Torn-clause-accepted : goal.returns-in-Torn-clause-accepted
returns-in-Torn-clause-accepted g c = refl

pub returns-in-TooLong-clause-answer : goal.returns-in-TooLong-clause-answer
returns-in-TooLong-clause-answer g c =
    long_by (checkpoint_in c.args.self.now.file) c.args.at _ _ c.in-Err.stop c.in-TooLong.is
    (ap₂ (λ a b. 1000000 - (a + b)) c.counts-counts.ensures.lead_in c.counts-counts.ensures.program)
    c.in-Err.ensures.reads.answer

pub returns-in-TooLong-clause-file : goal.returns-in-TooLong-clause-file
returns-in-TooLong-clause-file g c = c.begin_again.ensures.file

pub returns-in-TooLong-clause-fault : goal.returns-in-TooLong-clause-fault
returns-in-TooLong-clause-fault g c = record {
  later = c.in-Err.ensures.reads.read_fault.later;
  rose = λ e. absurd (long_no_second e);
  same = λ other. c.in-Err.ensures.reads.read_fault.same (long_no_read c.in-Err.stop c.in-TooLong.is);
}

pub returns-in-TooLong-clause-ended : goal.returns-in-TooLong-clause-ended
returns-in-TooLong-clause-ended g c =
    reported_by c.in-Err.stop _ _ _ (ap error c.in-TooLong.is) c.in-Err.ensures.reads.ended

pub returns-in-TooLong-clause-no_write : goal.returns-in-TooLong-clause-no_write
returns-in-TooLong-clause-no_write g c = long_no_write

pub returns-in-TooLong-clause-no_first : goal.returns-in-TooLong-clause-no_first
returns-in-TooLong-clause-no_first g c = long_no_first

pub returns-in-TooLong-clause-accepted : goal.returns-in-TooLong-clause-accepted
returns-in-TooLong-clause-accepted g c = refl

pub resumed-requires : goal.resumed-requires
resumed-requires g c =
    let (taken, w) = c.in-Ok.ensures.watches in
    omega (
      arith,
      w.done.2,
      (c.requires.file.ranges.1.1.1.0 0 (omega arith)).0,
      c.counts-counts.ensures.lead_in,
      c.counts-counts.ensures.program,
    )
