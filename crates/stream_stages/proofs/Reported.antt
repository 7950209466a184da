-- How a call of a player reports the faults of its input and its output.
use Rattle.std.proofs.Common.{◌≡◌, ◌≢◌, ◌≤◌, ℕ, List, Result, Ok, Err, IfErr, refl, sym, subst, arith}
use Rattle.std.specs.declared.option.Option.{Option}
use Rattle.cdg_io.specs.Causes.{HasCause, Rose, ReportsFault}
use Rattle.cdg_io.specs.declared.pumping.Pumped.{Pumped}
use Rattle.cdg_io.specs.declared.pumping.PumpStop.{PumpStop}
use Rattle.cdg_io.specs.declared.pumping.PumpStop.TheVariants as pump
use Rattle.cdtext_packs.specs.declared.lead_in_texts.LeadInTexts.{LeadInTexts}
use Rattle.stream_stages.specs.Faults.{ReportsStops}
use Rattle.stream_stages.specs.Watch.{WritesTexts, play_stop}
use Rattle.stream_stages.specs.declared.played.Played.{Played}
use Rattle.stream_stages.specs.declared.played.PlayStop.{PlayStop}
use Rattle.stream_stages.specs.declared.played.PlayStop.TheVariants.{ReadFault, WriteFault, Torn, TooLong, PastEnd, Text}

abbrev pump_done : Pumped → Result Pumped PumpStop
pump_done pumped = Ok pumped

abbrev pump_error : PumpStop → Result Pumped PumpStop
pump_error stop = Err stop

abbrev done : Played → Result Played PlayStop
done played = Ok played

abbrev error : PlayStop → Result Played PlayStop
error stop = Err stop

silent : (stop : PlayStop) (answer : Result Played PlayStop) (n n' : ℕ) → n ≤ n' → answer ≢ error stop
    → n' ≡ n
    → ReportsFault stop n n' answer
silent stop answer n n' later other same =
    record { later = later; rose = λ e. absurd (other e); same = λ e. same }

reported : (stop : PlayStop) (n n' : ℕ) → n ≤ n' → Rose n n' → ReportsFault stop n n' (error stop)
reported stop n n' later rose =
    record { later = later; rose = λ e. rose; same = λ other. absurd (other refl) }

module _ (f f' k k' : ℕ) (r : f ≤ f') (w : k ≤ k') where
  -- no fault
  none : (answer : Result Played PlayStop) → answer ≢ error ReadFault → answer ≢ error WriteFault → f' ≡ f
      → k' ≡ k
      → ReportsStops f f' k k' answer
  none answer read write same kept = record {
    read = silent ReadFault answer f f' r read same;
    write = silent WriteFault answer k k' w write kept;
  }

  read_failed : Rose f f' → k' ≡ k → ReportsStops f f' k k' (error ReadFault)
  read_failed rose kept = record {
    read = reported ReadFault f f' r rose;
    write = silent WriteFault (error ReadFault) k k' w (λ e. cc) kept;
  }

  write_failed : f' ≡ f → Rose k k' → ReportsStops f f' k k' (error WriteFault)
  write_failed same rose = record {
    read = silent ReadFault (error WriteFault) f f' r (λ e. cc) same;
    write = reported WriteFault k k' w rose;
  }

  -- ---- a pump

  pub done_reported : (pumped : Pumped) (played : Played)
      → (pump_done pumped ≢ pump_error pump.ReadFault → f' ≡ f)
      → (pump_done pumped ≢ pump_error pump.WriteFault → k' ≡ k)
      → ReportsStops f f' k k' (done played)
  done_reported pumped played same kept =
      none (done played) (λ e. cc) (λ e. cc) (same (λ e. cc)) (kept (λ e. cc))

  stop_at : (stop : PumpStop) → (pump_error stop ≡ pump_error pump.ReadFault → Rose f f')
      → (pump_error stop ≢ pump_error pump.ReadFault → f' ≡ f)
      → (pump_error stop ≡ pump_error pump.WriteFault → Rose k k')
      → (pump_error stop ≢ pump_error pump.WriteFault → k' ≡ k)
      → ReportsStops f f' k k' (error (play_stop stop))
  stop_at pump.ReadFault rose same cut kept = read_failed (rose refl) (kept (λ e. cc))
  stop_at pump.WriteFault rose same cut kept = write_failed (same (λ e. cc)) (cut refl)
  stop_at (pump.Torn unit) rose same cut kept =
      none (error (Torn unit)) (λ e. cc) (λ e. cc) (same (λ e. cc)) (kept (λ e. cc))
  stop_at pump.TooLong rose same cut kept =
      none (error TooLong) (λ e. cc) (λ e. cc) (same (λ e. cc)) (kept (λ e. cc))

  pub stop_reported : (stop : PumpStop) (answer : PlayStop) → answer ≡ play_stop stop
      → (pump_error stop ≡ pump_error pump.ReadFault → Rose f f')
      → (pump_error stop ≢ pump_error pump.ReadFault → f' ≡ f)
      → (pump_error stop ≡ pump_error pump.WriteFault → Rose k k')
      → (pump_error stop ≢ pump_error pump.WriteFault → k' ≡ k)
      → ReportsStops f f' k k' (error answer)
  stop_reported stop answer is rose same cut kept =
      subst (λ (a : PlayStop). ReportsStops f f' k k' (error a)) (sym is) (stop_at stop rose same cut kept)

  -- ---- a call that writes after everything was read

  pub shown_reported : (viewed played : Played) → (done viewed ≢ error ReadFault → f' ≡ f) → k' ≡ k
      → ReportsStops f f' k k' (done played)
  shown_reported viewed played same kept = none (done played) (λ e. cc) (λ e. cc) (same (λ e. cc)) kept

  pub cut_reported : (viewed : Played) → (done viewed ≢ error ReadFault → f' ≡ f) → Rose k k'
      → ReportsStops f f' k k' (error WriteFault)
  cut_reported viewed same rose = write_failed (same (λ e. cc)) rose

  pub counts_reported : (pumped : Pumped) (answer : Result Played PlayStop) (X : PlayStop → Type 0)
      → (pump_done pumped ≢ pump_error pump.ReadFault → f' ≡ f) → HasCause k k' answer
      → IfErr answer (λ stop. (stop ≡ WriteFault) × X stop) → ReportsStops f f' k k' answer
  counts_reported pumped (Ok played) X same cause part =
      none (done played) (λ e. cc) (λ e. cc) (same (λ e. cc)) cause.same
  counts_reported pumped (Err stop) X same cause part =
      subst (λ (s : PlayStop). ReportsStops f f' k k' (error s)) (sym part.0)
      (write_failed (same (λ e. cc)) cause.failed)

  pub texts_reported : (s : LeadInTexts) (blocks : ℕ) (held held' : Option (List ℕ)) (pumped : Pumped)
      (answer : Result Played PlayStop) → WritesTexts s blocks held held' answer
      → (pump_done pumped ≢ pump_error pump.ReadFault → f' ≡ f) → (answer ≡ error WriteFault → Rose k k')
      → (answer ≢ error WriteFault → k' ≡ k)
      → ReportsStops f f' k k' answer
  texts_reported s blocks held held' pumped (Ok played) writes same cut kept =
      none (done played) (λ e. cc) (λ e. cc) (same (λ e. cc)) (kept (λ e. cc))
  texts_reported s blocks held held' pumped (Err (Text fault)) writes same cut kept =
      none (error (Text fault)) (λ e. cc) (λ e. cc) (same (λ e. cc)) (kept (λ e. cc))
  texts_reported s blocks held held' pumped (Err WriteFault) writes same cut kept =
      write_failed (same (λ e. cc)) (cut refl)
  texts_reported s blocks held held' pumped (Err ReadFault) writes same cut kept = absurd writes
  texts_reported s blocks held held' pumped (Err (Torn block)) writes same cut kept = absurd writes
  texts_reported s blocks held held' pumped (Err TooLong) writes same cut kept = absurd writes
  texts_reported s blocks held held' pumped (Err (PastEnd past)) writes same cut kept = absurd writes

module _ (f f' k : ℕ) (r : f ≤ f') where
  -- the reading stopped, and nothing was written
  pub unread_view : (stop : PlayStop) → error stop ≢ error WriteFault
      → (error stop ≡ error ReadFault → Rose f f') → (error stop ≢ error ReadFault → f' ≡ f)
      → ReportsStops f f' k k (error stop)
  unread_view stop no_write rose same = record {
    read = record { later = r; rose = rose; same = same };
    write = silent WriteFault (error stop) k k (omega arith) no_write refl;
  }

  pub unread : (stop : PumpStop) (answer : PlayStop) → answer ≡ play_stop stop
      → pump_error stop ≢ pump_error pump.WriteFault
      → (pump_error stop ≡ pump_error pump.ReadFault → Rose f f')
      → (pump_error stop ≢ pump_error pump.ReadFault → f' ≡ f) → ReportsStops f f' k k (error answer)
  unread stop answer is no_write rose same =
      stop_reported f f' k k r (omega arith) stop answer is rose same (λ e. absurd (no_write e)) (λ e. refl)
