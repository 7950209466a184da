-- What a call records about an input that it reads to the end.
use Rattle.std.specs.Prelude.{◌≡◌, ℕ, ◌+◌, ◌*◌, Bool, true, false, length, Result, Ok, Err, IfSome, if◌then◌else◌}
use Rattle.cdg_io.specs.Causes.{Count, RoseOnce, ReportsFault, counted_up}
use Rattle.cdg_io.specs.Change.{Input, change}
use Rattle.cdg_io.specs.Pump.{FillsUnits, IsUnlessFault, ReportsEndOf, answer_of}
use Rattle.cdg_io.specs.Whole.{StopsAtFault}
use Rattle.cdg_io.specs.declared.ends.Source.{Ghosts as Source}
use Rattle.cdg_io.specs.declared.pumping.Pumped.{Pumped}
use Rattle.cdg_io.specs.declared.pumping.PumpStop.{PumpStop}
use Rattle.cdg_io.specs.declared.pumping.PumpStop.TheVariants.{ReadFault}
use Rattle.cdg_io.specs.declared.whole.ReadStop.{ReadStop}
use Rattle.cdg_io.specs.declared.whole.ReadStop.TheVariants.{NoMemory}

-- The end of an input was recorded once, unless the call stopped before it.
abbrev pub EndReportedUnless : {T E : Type 0} → (E → Bool) → Result T E → Count → Count → Type 0
EndReportedUnless is_early (Ok value) before now = RoseOnce before now
EndReportedUnless is_early (Err stop) before now =
    now ≡ (if is_early stop then before else counted_up 1 before)

-- the unread bytes of an input and the count of its ends, from its states before and after a call
abbrev pub input : {S : Type 0} → Source S → S → S → Input
input source before after =
    record { left = change source.left before after; ends = change source.ends before after }

-- whether the reading of a whole text stops before the end of the input
abbrev pub is_before_text_end : ReadStop → Bool
is_before_text_end NoMemory = false
is_before_text_end stop = true

-- An input was read in units of `size` bytes, at most `limit` of them.
pub record ReadsUnits {S : Type 0} (source : Source S) (size limit : ℕ) (before after : S)
    (result : Result Pumped PumpStop) : Type 0 where
  -- if nothing failed, the length of the whole input decides the result
  pub answer : IfSome (source.left before) (λ all. IsUnlessFault result (answer_of size limit (length all)))
  -- a failed read is reported, and is the last one
  pub read_fault : ReportsFault ReadFault (source.faults before) (source.faults after) result
  pub cut : result ≡ Err ReadFault
      → StopsAtFault source.left source.faults (limit * size + 1) before after
  -- the end was recorded once if the input was read to its end, and each whole unit was one full read
  pub ended : ReportsEndOf result (source.ends before) (source.ends after)
  pub rooms : FillsUnits limit result (source.fills before) (source.fills after)
