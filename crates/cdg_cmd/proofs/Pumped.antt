-- From the answer of a pump to the status of a command.
use Rattle.std.proofs.Common.{◌≡◌, ◌≢◌, ◌≤◌, ℕ, Result, Ok, Err, IsErrOf, refl, sym, subst, ◌∙◌}
use Rattle.cdg_io.specs.Causes.{Rose, ReportsFault}
use Rattle.cdg_io.specs.declared.pumping.Pumped.{Pumped}
use Rattle.cdg_io.specs.declared.pumping.PumpStop.{PumpStop}
use Rattle.cdg_io.specs.declared.pumping.PumpStop.TheVariants as pump
use Rattle.cdg_cmd.proofs.Quiet.{count}
use Rattle.cdg_cmd.proofs.Quiet as quiet
use Rattle.cdg_cmd.specs.Faults.{ReportsOne}
use Rattle.cdg_cmd.specs.Stops.{pump_status}
use Rattle.cdg_cmd.specs.declared.status.Status.{Status}
use Rattle.cdg_cmd.specs.declared.status.Status.TheVariants.{NoMemory}

faults : (answer : Result Pumped PumpStop) (f f' k k' : ℕ) → f ≤ f' → k ≤ k'
    → (IsErrOf answer pump.ReadFault → Rose f f') → (answer ≢ Err pump.ReadFault → f' ≡ f)
    → (IsErrOf answer pump.WriteFault → Rose k k') → (answer ≢ Err pump.WriteFault → k' ≡ k)
    → ReportsOne (count f f') (count k k') (pump_status answer)
faults (Ok pumped) f f' k k' r w rose same cut kept =
    quiet.none f f' k k' r w _ (λ e. cc) (λ e. cc) (λ e. cc) (λ e. cc) (same (λ e. cc)) (kept (λ e. cc))
faults (Err pump.ReadFault) f f' k k' r w rose same cut kept =
    quiet.read f f' k k' r w (rose refl) (kept (λ e. cc))
faults (Err pump.WriteFault) f f' k k' r w rose same cut kept =
    quiet.write f f' k k' r w (same (λ e. cc)) (cut refl)
faults (Err (pump.Torn unit)) f f' k k' r w rose same cut kept =
    quiet.none f f' k k' r w _ (λ e. cc) (λ e. cc) (λ e. cc) (λ e. cc) (same (λ e. cc)) (kept (λ e. cc))
faults (Err pump.TooLong) f f' k k' r w rose same cut kept =
    quiet.none f f' k k' r w _ (λ e. cc) (λ e. cc) (λ e. cc) (λ e. cc) (same (λ e. cc)) (kept (λ e. cc))

pub reported_one : (answer : Result Pumped PumpStop) (status : Status) (f f' k k' : ℕ)
    → status ≡ pump_status answer → ReportsFault pump.ReadFault f f' answer
    → ReportsFault pump.WriteFault k k' answer
    → ReportsOne (count f f') (count k k') status
reported_one answer status f f' k k' is read write =
    subst (λ (s : Status). ReportsOne (count f f') (count k k') s) (sym is)
    (faults answer f f' k k' read.later write.later read.rose read.same write.rose write.same)

never_memory_at : (answer : Result Pumped PumpStop) → pump_status answer ≢ NoMemory
never_memory_at (Ok done) e = absurd (cc)
never_memory_at (Err pump.ReadFault) e = absurd (cc)
never_memory_at (Err pump.WriteFault) e = absurd (cc)
never_memory_at (Err (pump.Torn unit)) e = absurd (cc)
never_memory_at (Err pump.TooLong) e = absurd (cc)

pub never_memory : (answer : Result Pumped PumpStop) (status : Status) → status ≡ pump_status answer
    → status ≢ NoMemory
never_memory answer status is e = never_memory_at answer (sym is ∙ e)
