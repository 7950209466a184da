-- Answers that differ from each other, and facts about a file that is kept.
use Rattle.std.proofs.Common.{◌≡◌, ◌≢◌, ℕ, ◌*◌, ◌<◌, ◌≤◌, List, length, sym, subst, ap, arith, ◌⊎◌, inl, inr}
use Rattle.std.specs.Prelude.{Option, Some, None, Result, Ok, Err, IfSome, IsOk, IsErr, nat_lt, ◌==◌, ◌%◌, ◌/◌}
use Rattle.cdg_io.specs.Causes.{Count}
use Rattle.cdg_io.specs.Change.{Input, Passed}
use Rattle.cdg_io.specs.Pump.{IsUnlessFault, ReportsEndOf, answer_of}
use Rattle.cdg_io.specs.declared.pumping.Pumped.{Pumped}
use Rattle.cdg_io.specs.declared.pumping.PumpStop.{PumpStop}
use Rattle.cdg_io.specs.declared.pumping.PumpStop.TheVariants as pump_stop
use Rattle.cdg_checkpoint.specs.Checkpoint.{Checkpoint, checkpoint_in}
use Rattle.stream_stages.proofs.Views.{is_over, long_tests}
use Rattle.cdg_checkpoint.specs.Resumed.{IsAcceptedBy, IsGoneOnBy, IsResumedBy, ReadsSaved, Resumes, acceptance, blocks_left}
use Rattle.cdg_checkpoint.specs.declared.stops.Resumed.{Resumed}
use Rattle.cdg_checkpoint.specs.declared.stops.ResumeStop.{ResumeStop}
use Rattle.cdg_checkpoint.specs.declared.stops.ResumeStop.TheVariants.{FirstFault, SecondFault, WriteFault, Torn, TooLong, PastEnd}

abbrev pump_stopped : PumpStop → Result Pumped PumpStop
pump_stopped stop = Err stop

abbrev stopped : ResumeStop → Result Resumed ResumeStop
stopped stop = Err stop

abbrev not_accepted : ResumeStop → Result (Unit {0}) ResumeStop
not_accepted stop = Err stop

-- ---- The stop of a pump.

pub is_read : (stop : PumpStop) → (stop ≡ pump_stop.ReadFault) ⊎ (stop ≡ pump_stop.WriteFault)
    → pump_stopped stop ≢ Err pump_stop.WriteFault
    → pump_stopped stop ≡ Err pump_stop.ReadFault
is_read stop (inl read) no_write = ap pump_stopped read
is_read stop (inr write) no_write = absurd (no_write (ap pump_stopped write))

pub done_no_read : (pumped : Pumped) → Ok pumped ≢ Err pump_stop.ReadFault
done_no_read pumped = λ e. (cc)

pub torn_no_read : (stop : PumpStop) (unit : ℕ) → stop ≡ pump_stop.Torn unit
    → pump_stopped stop ≢ Err pump_stop.ReadFault
torn_no_read stop unit is = λ e. (cc)

pub long_no_read : (stop : PumpStop) → stop ≡ pump_stop.TooLong → pump_stopped stop ≢ Err pump_stop.ReadFault
long_no_read stop is = λ e. (cc)

-- how a known stop reports the end of the input
pub reported_by : (stop other : PumpStop) (before now : Count) → pump_stopped stop ≡ Err other
    → ReportsEndOf (Err stop) before now
    → ReportsEndOf (Err other) before now
reported_by stop other before now is reported =
    subst (λ (r : Result Pumped PumpStop). ReportsEndOf r before now) is reported

-- ---- The answer by the length of the rest, if a fault occurred or the rest is too long.

pub fault_by : (left : Option (List ℕ)) (c : Checkpoint) (time : ℕ)
    → IfSome left (λ all. IsGoneOnBy (Err SecondFault) c time (length all))
fault_by None c time = tt
fault_by (Some all) c time = tt

pub unwritten_by : (left : Option (List ℕ)) (c : Checkpoint) (time : ℕ)
    → IfSome left (λ all. IsResumedBy (Err WriteFault) c time (length all))
unwritten_by None c time = tt
unwritten_by (Some all) c time = tt

pub long_by : (c : Checkpoint) (time limit : ℕ) (left : Option (List ℕ)) (stop : PumpStop)
    → stop ≡ pump_stop.TooLong → limit ≡ blocks_left c
    → IfSome left (λ all. IsUnlessFault (pump_stopped stop) (answer_of 96 limit (length all)))
    → IfSome left (λ all. IsGoneOnBy (Err TooLong) c time (length all))
long_by c time limit None stop is fits h = tt
long_by c time limit (Some all) stop is fits h =
    let long : IsUnlessFault (pump_stopped pump_stop.TooLong) (answer_of 96 limit (length all)) =
    subst (λ (st : PumpStop). IsUnlessFault (pump_stopped st) (answer_of 96 limit (length all))) is h in
    subst (λ n. n * 96 < length all) fits (is_over (limit * 96) (length all)
    (long_tests (nat_lt (limit * 96) (length all)) (length all % 96 == 0) (length all / 96) long))

-- ---- The answer of a resumed call.

pub done_no_stop : (resumed : Resumed) (stop : ResumeStop) → Ok resumed ≢ Err stop
done_no_stop resumed stop = λ e. (cc)

pub second_no_write : stopped SecondFault ≢ Err WriteFault
second_no_write = λ e. (cc)

pub second_no_first : stopped SecondFault ≢ Err FirstFault
second_no_first = λ e. (cc)

pub write_no_first : stopped WriteFault ≢ Err FirstFault
write_no_first = λ e. (cc)

pub write_no_second : stopped WriteFault ≢ Err SecondFault
write_no_second = λ e. (cc)

pub torn_no_first : (block : ℕ) → stopped (Torn block) ≢ Err FirstFault
torn_no_first block = λ e. (cc)

pub torn_no_second : (block : ℕ) → stopped (Torn block) ≢ Err SecondFault
torn_no_second block = λ e. (cc)

pub torn_no_write : (block : ℕ) → stopped (Torn block) ≢ Err WriteFault
torn_no_write block = λ e. (cc)

pub long_no_first : stopped TooLong ≢ Err FirstFault
long_no_first = λ e. (cc)

pub long_no_second : stopped TooLong ≢ Err SecondFault
long_no_second = λ e. (cc)

pub long_no_write : stopped TooLong ≢ Err WriteFault
long_no_write = λ e. (cc)

pub second_is_not_past : (n : ℕ) → SecondFault ≢ PastEnd n
second_is_not_past n = λ e. (cc)

-- ---- The checkpoint is accepted, or not.

pub accepted_no_stop : (done : Unit {0}) (stop : ResumeStop) → Ok done ≢ Err stop
accepted_no_stop done stop = λ e. (cc)

pub same_stop : (stop other : ResumeStop) → stopped stop ≡ Err other → not_accepted stop ≡ Err other
same_stop stop other e = let same : stop ≡ other = cc in ap not_accepted same

pub other_stop : (stop other : ResumeStop) → stopped stop ≢ Err other → not_accepted stop ≢ Err other
other_stop stop other unlike = λ e. unlike (let same : stop ≡ other = cc in ap stopped same)

pub refused_no_second : (stop : ResumeStop) (time : ℕ) (file : List ℕ) → IsAcceptedBy (Err stop) time file
    → stopped stop ≢ Err SecondFault
refused_no_second stop time file h = λ e. let same : stop ≡ SecondFault = cc in
    subst (λ s. IsAcceptedBy (Err s) time file) same h

pub refused_no_write : (stop : ResumeStop) (time : ℕ) (file : List ℕ) → IsAcceptedBy (Err stop) time file
    → stopped stop ≢ Err WriteFault
refused_no_write stop time file h = λ e. let same : stop ≡ WriteFault = cc in
    subst (λ s. IsAcceptedBy (Err s) time file) same h

good_by : (answer : Result (Unit {0}) ResumeStop) (time : ℕ) (file : List ℕ) → IsOk answer
    → IsAcceptedBy (Ok tt) time file
    → IsAcceptedBy answer time file
good_by (Ok done) time file ok h = h
good_by (Err stop) time file ok h = absurd (cc)

pub accepted_by : (result : Result Resumed ResumeStop) (time : ℕ) (file now : List ℕ)
    → IsOk (acceptance result) → now ≡ file → IsAcceptedBy (Ok tt) time file
    → IsAcceptedBy (acceptance result) time now
accepted_by result time file now ok kept h =
    good_by (acceptance result) time now ok (subst (λ f. IsAcceptedBy (Ok tt) time f) (sym kept) h)

pub accepted_not_refused : (answer : Result (Unit {0}) ResumeStop) (A : Type 0) → IsOk answer → IsErr answer
    → A
accepted_not_refused (Ok done) A ok err = absurd (cc)
accepted_not_refused (Err stop) A ok err = absurd (cc)

-- ---- The file is kept while the rest is played.

pub resumes_still : (file now : List ℕ) (time : ℕ) (passed : Passed) (result : Result Resumed ResumeStop)
    (taken : List ℕ) → now ≡ file → Resumes file time passed result taken
    → Resumes now time passed result taken
resumes_still file now time passed result taken kept h =
    subst (λ f. Resumes f time passed result taken) (sym kept) h

pub answer_still : (left : Option (List ℕ)) (file now : List ℕ) (time : ℕ)
    (result : Result Resumed ResumeStop) → now ≡ file
    → IfSome left (λ all. IsResumedBy result (checkpoint_in file) time (length all))
    → IfSome left (λ all. IsResumedBy result (checkpoint_in now) time (length all))
answer_still left file now time result kept h =
    subst (λ f. IfSome left (λ all. IsResumedBy result (checkpoint_in f) time (length all))) (sym kept) h

-- an unchanged count
pub no_less : (n : ℕ) → n ≤ n
no_less n = omega arith

-- ---- How the first input was read, if it is accepted and if it is not.

pub reads_on : (first : Input) (result : Result Resumed ResumeStop) (file now : List ℕ) → now ≡ file
    → result ≢ Err FirstFault → ReadsSaved {T = Unit {0}} first (Ok tt) file
    → ReadsSaved first result now
reads_on first result file now kept other reads = subst (λ f. ReadsSaved first result f) (sym kept) (record {
  most = reads.most;
  taken = λ e. reads.taken (accepted_no_stop tt FirstFault);
  end = λ e. reads.end (accepted_no_stop tt FirstFault);
  reported = λ e. reads.reported (accepted_no_stop tt FirstFault);
  goes_on = λ e. reads.goes_on (accepted_no_stop tt FirstFault);
  cut = λ e. absurd (other e);
  kept = λ e. absurd (other e);
  not_reported = λ e. absurd (other e);
})

pub reads_stopped : (first : Input) (stop : ResumeStop) (file : List ℕ)
    → ReadsSaved first (not_accepted stop) file
    → ReadsSaved first (stopped stop) file
reads_stopped first stop file reads = record {
  most = reads.most;
  taken = λ other. reads.taken (other_stop stop FirstFault other);
  end = λ other. reads.end (other_stop stop FirstFault other);
  reported = λ other. reads.reported (other_stop stop FirstFault other);
  goes_on = λ other. reads.goes_on (other_stop stop FirstFault other);
  cut = λ e. reads.cut (same_stop stop FirstFault e);
  kept = λ e. reads.kept (same_stop stop FirstFault e);
  not_reported = λ e. reads.not_reported (same_stop stop FirstFault e);
}
