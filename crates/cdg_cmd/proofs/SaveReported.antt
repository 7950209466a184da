-- From the answer of a save to the status of a command.
use Rattle.std.proofs.Common.{◌≡◌, ◌≢◌, Result, Ok, Err, IfErr, subst}
use Rattle.cdg_io.specs.declared.pumping.Pumped.{Pumped}
use Rattle.cdg_io.specs.declared.pumping.PumpStop.{PumpStop}
use Rattle.cdg_io.specs.declared.pumping.PumpStop.TheVariants as pump
use Rattle.cdg_cmd.specs.Keeps.{MayWrite}
use Rattle.cdg_cmd.specs.Stops.{pump_status}
use Rattle.cdg_cmd.specs.declared.status.Status.{Status}

untouched_at : {K : Type 0} (answer : Result Pumped PumpStop) (old new : K)
    → IfErr answer (λ stop. stop ≢ pump.WriteFault → new ≡ old) → ¬ (MayWrite (pump_status answer))
    → new ≡ old
untouched_at (Ok pumped) old new same none = absurd (none tt)
untouched_at (Err pump.ReadFault) old new same none = same (λ e. cc)
untouched_at (Err pump.WriteFault) old new same none = absurd (none tt)
untouched_at (Err (pump.Torn unit)) old new same none = same (λ e. cc)
untouched_at (Err pump.TooLong) old new same none = same (λ e. cc)

-- if the output may not be written, it is unchanged
pub untouched : {K : Type 0} (answer : Result Pumped PumpStop) (status : Status) (old new : K)
    → status ≡ pump_status answer
    → IfErr answer (λ stop. stop ≢ pump.WriteFault → new ≡ old) → ¬ (MayWrite status) → new ≡ old
untouched answer status old new is same none =
    untouched_at answer old new same (subst (λ (s : Status). ¬ (MayWrite s)) is none)
