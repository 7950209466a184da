-- The faults that a call of a player reports.
use Rattle.std.specs.Prelude.{ℕ, Result}
use Rattle.cdg_io.specs.Causes.{ReportsFault}
use Rattle.stream_stages.specs.declared.played.Played.{Played}
use Rattle.stream_stages.specs.declared.played.PlayStop.{PlayStop}
use Rattle.stream_stages.specs.declared.played.PlayStop.TheVariants.{ReadFault, WriteFault}

-- The result is a fault only if its count rose. The counts are those of an input and of an output, before and after the
-- call.
pub record ReportsStops (source source' out out' : ℕ) (answer : Result Played PlayStop) : Type 0 where
  pub read : ReportsFault ReadFault source source' answer
  pub write : ReportsFault WriteFault out out' answer
