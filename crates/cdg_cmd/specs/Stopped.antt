-- The result of a call of another crate.
use Rattle.std.specs.Prelude.{◌≡◌, ◌≢◌, IfErr, Result, Ok, Err}
use Rattle.cdg_press.specs.declared.stops.PressStop.{PressStop}
use Rattle.cdg_press.specs.declared.stops.PressStop.TheVariants.{WriteFault}
use Rattle.cdg_cmd.specs.declared.stopped.Stopped.{Stopped}

abbrev pub unwrapped : {T E : Type 0} → Result T (Stopped E) → Result T E
unwrapped (Ok value) = Ok value
unwrapped (Err error) = Err error.stop

-- An output is unchanged unless a write failed.
pub record KeepsOutput {K : Type 0} (before after : K) (answer : Result (Unit {0}) PressStop) : Type 0 where
  pub same : IfErr answer (λ stop. stop ≢ WriteFault → after ≡ before)
