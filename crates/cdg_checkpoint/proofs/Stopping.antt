-- A stop of one step is the stop of the whole call.
use Rattle.std.proofs.Common.{◌≡◌, ◌≢◌, ℕ, ◌+◌, ◌*◌, ◌≤◌, Bool, true, false, List, length, sym, subst}
use Rattle.std.specs.Prelude.{Option, Some, None, Result, Ok, Err, IfSome, IsOk, nat_lt, if◌then◌else◌}
use Rattle.std.specs.Io.KnownBytes.{IsAtEnd}
use Rattle.cdg_io.specs.Causes.{Count, RoseOnce}
use Rattle.cdg_io.specs.Change.{from_to}
use Rattle.cdg_io.proofs.Frames.{feeding}
use Rattle.cdg_io.specs.declared.pumping.PumpStop.{PumpStop}
use Rattle.cdg_io.specs.declared.stage.Then.{Then}
use Rattle.cdg_checkpoint.specs.Checkpoint.{Checkpoint}
use Rattle.stream_stages.specs.declared.block_words.BlockWords.{BlockWords}
use Rattle.stream_stages.specs.declared.painting.Painting.{Painting}
use Rattle.cdg_checkpoint.specs.Tracked.{TracksBlocks, words_drawn}
use Rattle.cdg_checkpoint.specs.Resumed.{EndsAsResumed, GoesOn, IsAcceptedBy, IsGoneOnBy, IsResumedBy, acceptance, blocks_left, reached, time_after}
use Rattle.cdg_checkpoint.specs.declared.stops.Resumed.{Resumed}
use Rattle.cdg_checkpoint.specs.declared.stops.ResumeStop.{ResumeStop}
use Rattle.cdg_checkpoint.specs.declared.stops.ResumeStop.TheVariants.{FirstFault, SecondFault, WriteFault, BadSave, BeforeSave, Torn, TooLong, PastEnd}

-- ---- A checkpoint that is not accepted.

pub refused : (stop : ResumeStop) (time : ℕ) (file : List ℕ) → IsAcceptedBy (Err stop) time file
    → IsAcceptedBy (acceptance (Err stop)) time file
refused FirstFault time file h = tt
refused SecondFault time file h = absurd h
refused WriteFault time file h = absurd h
refused (BadSave byte) time file h = h
refused (BeforeSave blocks) time file h = h
refused (Torn block) time file h = absurd h
refused TooLong time file h = absurd h
refused (PastEnd blocks) time file h = absurd h

pub refused_not_accepted : (stop : ResumeStop) (time : ℕ) (file : List ℕ) (A : Type 0)
    → IsAcceptedBy (Err stop) time file → IsOk (acceptance (Err stop))
    → A
refused_not_accepted FirstFault time file A h ok = absurd (cc)
refused_not_accepted SecondFault time file A h ok = absurd h
refused_not_accepted WriteFault time file A h ok = absurd h
refused_not_accepted (BadSave byte) time file A h ok = absurd (cc)
refused_not_accepted (BeforeSave blocks) time file A h ok = absurd (cc)
refused_not_accepted (Torn block) time file A h ok = absurd h
refused_not_accepted TooLong time file A h ok = absurd h
refused_not_accepted (PastEnd blocks) time file A h ok = absurd h

-- ---- A stop while the rest is played.

resumed_by : (stop : ResumeStop) (c : Checkpoint) (time size : ℕ) → IsGoneOnBy (Err stop) c time size
    → IsResumedBy (Err stop) c time size
resumed_by FirstFault c time size h = h
resumed_by SecondFault c time size h = h
resumed_by WriteFault c time size h = tt
resumed_by (BadSave byte) c time size h = h
resumed_by (BeforeSave blocks) c time size h = h
resumed_by (Torn block) c time size h = h
resumed_by TooLong c time size h = h
resumed_by (PastEnd blocks) c time size h = h

pub all_resumed_by : (left : Option (List ℕ)) (stop : ResumeStop) (c : Checkpoint) (time : ℕ)
    → IfSome left (λ all. IsGoneOnBy (Err stop) c time (length all))
    → IfSome left (λ all. IsResumedBy (Err stop) c time (length all))
all_resumed_by None stop c time h = tt
all_resumed_by (Some all) stop c time h = resumed_by stop c time (length all) h

-- the rest was consumed as far as the stop says
pub gone_on_to_stop : (c : Checkpoint) (time limit : ℕ) (left left' : Option (List ℕ)) (taken : List ℕ)
    (s s' : Then BlockWords Painting) (stop : PumpStop) (other : ResumeStop) → limit ≡ blocks_left c
    → TracksBlocks limit words_drawn (feeding (from_to left left') (from_to s s')) (Err stop) taken
    → ((block : ℕ) → other ≡ Torn block → IsAtEnd left') → ((blocks : ℕ) → other ≢ PastEnd blocks)
    → GoesOn (time_after c time) (from_to left left') s'.second.screen (Err other) taken
gone_on_to_stop c time limit left left' taken s s' stop other fits w torn not_past = record {
  taken_from = w.taken_from;
  within = subst (λ n. length taken ≤ n * 96 + 1) fits w.within;
  done = tt;
  torn = λ block e. torn block (let same : other ≡ Torn block = cc in same);
  past_end = λ blocks e. absurd (not_past blocks (let same : other ≡ PastEnd blocks = cc in same));
}

-- ---- The answer after the consumed blocks.

abbrev answered : Bool → ℕ → ℕ → Result Resumed ResumeStop
answered past blocks bad = if past then Err (PastEnd blocks) else Ok (record { blocks = blocks; bad = bad })

ends_so : (past : Bool) (blocks bad : ℕ) (before now : Count) → RoseOnce before now
    → EndsAsResumed (answered past blocks bad) before now
ends_so true blocks bad before now rose = rose
ends_so false blocks bad before now rose = rose

pub ends_as_reached : (result : Result Resumed ResumeStop) (blocks time bad : ℕ) (before now : Count)
    → result ≡ reached blocks time bad → RoseOnce before now
    → EndsAsResumed result before now
ends_as_reached result blocks time bad before now is rose =
    subst (λ (r : Result Resumed ResumeStop). EndsAsResumed r before now) (sym is)
    (ends_so (nat_lt blocks time) blocks bad before now rose)

stops_so : (past : Bool) (blocks bad : ℕ) (stop : ResumeStop) → ((n : ℕ) → stop ≢ PastEnd n)
    → answered past blocks bad ≢ Err stop
stops_so true blocks bad stop other = λ e. other blocks (let same : stop ≡ PastEnd blocks = cc in same)
stops_so false blocks bad stop other = λ e. absurd (cc)

pub reached_is_not : (result : Result Resumed ResumeStop) (blocks time bad : ℕ) (stop : ResumeStop)
    → result ≡ reached blocks time bad → ((n : ℕ) → stop ≢ PastEnd n)
    → result ≢ Err stop
reached_is_not result blocks time bad stop is other =
    subst (λ (r : Result Resumed ResumeStop). r ≢ Err stop) (sym is)
    (stops_so (nat_lt blocks time) blocks bad stop other)

pub first_is_not_past : (n : ℕ) → FirstFault ≢ PastEnd n
first_is_not_past n = λ e. (cc)

pub write_is_not_past : (n : ℕ) → WriteFault ≢ PastEnd n
write_is_not_past n = λ e. (cc)
