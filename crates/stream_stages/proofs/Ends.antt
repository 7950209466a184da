-- How a player reports the end of an input.
use Rattle.std.proofs.Common.{◌≡◌, ◌≢◌, ℕ, Bool, true, false, if◌then◌else◌, List, Result, Ok, Err, IfErr, refl, sym, subst}
use Rattle.std.specs.Prelude.{nat_lt}
use Rattle.cdg_io.specs.Pump.{ReportsEndOf}
use Rattle.cdg_io.specs.declared.pumping.Pumped.{Pumped}
use Rattle.cdg_io.specs.declared.pumping.PumpStop.{PumpStop}
use Rattle.cdg_io.specs.declared.pumping.PumpStop.TheVariants as pump
use Rattle.stream_stages.specs.Calls.{EndFirst, EndInTurn, IsListStop, IsMomentStop, IsStreamStop}
use Rattle.cdg_io.specs.Causes.{Count, RoseOnce}
use Rattle.cdtext_packs.specs.declared.lead_in_texts.LeadInTexts.{LeadInTexts}
use Rattle.std.specs.declared.option.Option.{Option}
use Rattle.stream_stages.specs.Watch.{WritesTexts, play_stop, viewed}
use Rattle.stream_stages.specs.declared.played.Played.{Played}
use Rattle.stream_stages.specs.declared.played.PlayStop.{PlayStop}
use Rattle.stream_stages.specs.declared.played.PlayStop.TheVariants.{ReadFault, WriteFault, Torn, TooLong, PastEnd, Text}

abbrev pump_error : PumpStop → Result Pumped PumpStop
pump_error stop = Err stop

abbrev play_error : PlayStop → Result Played PlayStop
play_error stop = Err stop

ends_in_turn : (stop : PumpStop) (before now : Count) → ReportsEndOf (pump_error stop) before now
    → EndInTurn (play_error (play_stop stop)) before now
ends_in_turn pump.ReadFault before now reported = reported
ends_in_turn pump.WriteFault before now reported = reported
ends_in_turn (pump.Torn unit) before now reported = reported
ends_in_turn pump.TooLong before now reported = reported

-- a call that writes while it reads has stopped
pub ends_stopped : (stop : PumpStop) (answer : PlayStop) (before now : Count) → answer ≡ play_stop stop
    → ReportsEndOf (pump_error stop) before now
    → EndInTurn (play_error answer) before now
ends_stopped stop answer before now is reported =
    subst (λ (s : PlayStop). EndInTurn (play_error s) before now) (sym is)
    (ends_in_turn stop before now reported)

-- a stop of a pump is not `PastEnd`
pub stops_stream : (stop : PumpStop) → IsStreamStop (play_stop stop)
stops_stream pump.ReadFault = tt
stops_stream pump.WriteFault = tt
stops_stream (pump.Torn unit) = tt
stops_stream pump.TooLong = tt

pub stops_played : (stop : PumpStop) (answer : PlayStop) → answer ≡ play_stop stop → IsStreamStop answer
stops_played stop answer is = subst IsStreamStop (sym is) (stops_stream stop)

-- a call that writes counts stops only at a failed write
pub stops_counts : (answer : Result Played PlayStop) (X : PlayStop → Type 0)
    → IfErr answer (λ stop. (stop ≡ WriteFault) × X stop) → IfErr answer IsStreamStop
stops_counts (Ok played) X part = tt
stops_counts (Err stop) X part = subst IsStreamStop (sym part.0) tt

-- the whole input was read
pub ends_counts : (answer : Result Played PlayStop) (X : PlayStop → Type 0)
    → IfErr answer (λ stop. (stop ≡ WriteFault) × X stop) → (before now : Count) → RoseOnce before now
    → EndFirst answer before now
ends_counts (Ok played) X part before now reported = reported
ends_counts (Err stop) X part before now reported =
    subst (λ (s : PlayStop). EndFirst (play_error s) before now) (sym part.0) reported

ends_first : (stop : PumpStop) (before now : Count) → pump_error stop ≢ pump_error pump.WriteFault
    → ReportsEndOf (pump_error stop) before now
    → EndFirst (play_error (play_stop stop)) before now
ends_first pump.ReadFault before now other reported = reported
ends_first pump.WriteFault before now other reported = absurd (other refl)
ends_first (pump.Torn unit) before now other reported = reported
ends_first pump.TooLong before now other reported = reported

-- a call stopped before it read the whole input
pub ends_unread : (stop : PumpStop) (answer : PlayStop) (before now : Count) → answer ≡ play_stop stop
    → pump_error stop ≢ pump_error pump.WriteFault → ReportsEndOf (pump_error stop) before now
    → EndFirst (play_error answer) before now
ends_unread stop answer before now is other reported =
    subst (λ (s : PlayStop). EndFirst (play_error s) before now) (sym is)
    (ends_first stop before now other reported)

-- a call that lists texts may have each stop of a pump
stops_at_list : (stop : PumpStop) → IsListStop (play_stop stop)
stops_at_list pump.ReadFault = tt
stops_at_list pump.WriteFault = tt
stops_at_list (pump.Torn unit) = tt
stops_at_list pump.TooLong = tt

pub stops_unread : (stop : PumpStop) (answer : PlayStop) → answer ≡ play_stop stop → IsListStop answer
stops_unread stop answer is = subst IsListStop (sym is) (stops_at_list stop)

-- a stop of a pump is not `Text` either
pub stops_moment : (stop : PumpStop) → IsMomentStop (play_stop stop)
stops_moment pump.ReadFault = tt
stops_moment pump.WriteFault = tt
stops_moment (pump.Torn unit) = tt
stops_moment pump.TooLong = tt

abbrev by_test : Bool → ℕ → ℕ → Result Played PlayStop
by_test past blocks bad = if past then Err (PastEnd blocks) else Ok (record { blocks = blocks; bad = bad })

stops_view : (past : Bool) (blocks bad : ℕ) → IfErr (by_test past blocks bad) IsMomentStop
stops_view true blocks bad = tt
stops_view false blocks bad = tt

-- the stops of a call that draws up to a time
pub viewed_stops : (blocks time bad : ℕ) → IfErr (viewed blocks time bad) IsMomentStop
viewed_stops blocks time bad = stops_view (nat_lt blocks time) blocks bad

-- the whole input was read
pub ends_texts : (s : LeadInTexts) (blocks : ℕ) (held held' : Option (List ℕ))
    (result : Result Played PlayStop) (before now : Count)
    → WritesTexts s blocks held held' result → RoseOnce before now → EndFirst result before now
ends_texts s blocks held held' (Ok played) before now writes reported = reported
ends_texts s blocks held held' (Err (Text fault)) before now writes reported = reported
ends_texts s blocks held held' (Err WriteFault) before now writes reported = reported
ends_texts s blocks held held' (Err ReadFault) before now writes reported = absurd writes
ends_texts s blocks held held' (Err (Torn block)) before now writes reported = absurd writes
ends_texts s blocks held held' (Err TooLong) before now writes reported = absurd writes
ends_texts s blocks held held' (Err (PastEnd past)) before now writes reported = absurd writes

-- a call that writes texts does not stop with `PastEnd`
pub stops_list : (s : LeadInTexts) (blocks : ℕ) (held held' : Option (List ℕ))
    (result : Result Played PlayStop)
    → WritesTexts s blocks held held' result → IfErr result IsListStop
stops_list s blocks held held' (Ok played) writes = tt
stops_list s blocks held held' (Err (Text fault)) writes = tt
stops_list s blocks held held' (Err WriteFault) writes = tt
stops_list s blocks held held' (Err ReadFault) writes = tt
stops_list s blocks held held' (Err (Torn block)) writes = tt
stops_list s blocks held held' (Err TooLong) writes = tt
stops_list s blocks held held' (Err (PastEnd past)) writes = absurd writes
