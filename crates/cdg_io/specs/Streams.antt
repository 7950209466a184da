-- The input, the output and the result of a call that reads a stream of units.
--
-- `gives bytes answer text` relates input bytes (whole units, and perhaps a part of a unit) to the result of the call
-- for the units, and to the text that it writes.
use Rattle.std.specs.Prelude.{◌≡◌, ◌≢◌, ◌+◌, ◌*◌, ◌<◌, ◌≤◌, ℕ, List, [], length, take, Result, Err, IfOk}
use Rattle.std.specs.Io.KnownBytes.{Appends, Consumes, IsAtEnd}
use Rattle.cdg_io.specs.Change.{Passed}
use Rattle.cdg_io.specs.Moves.{AppendsPrefix, AppendsBetween}
use Rattle.cdg_io.specs.Pump.{Cut}
use Rattle.cdg_io.specs.declared.pumping.Pumped.{Pumped}
use Rattle.cdg_io.specs.declared.pumping.PumpStop.{PumpStop}
use Rattle.cdg_io.specs.declared.pumping.PumpStop.TheVariants.{Torn, WriteFault}

-- The call has some result and writes this text.
abbrev pub GivesText : {T : Type 0} → (List ℕ → T → List ℕ → Type 0) → List ℕ → List ℕ → Type 0
GivesText {T} gives bytes text = (answer : T) × gives bytes answer text

-- A call that writes while it reads: the units of its input, its stop for a part of a unit and for a failed write, and
-- its result.
pub record Reading (T E : Type 0) : Type 1 where
  pub cut : Cut
  pub torn_at : ℕ → E
  pub write_fault : E
  pub gives : List ℕ → T → List ℕ → Type 0

-- a reading whose result and stops are those of its pump
abbrev pub as_pumped : Cut → (List ℕ → Pumped → List ℕ → Type 0) → Reading Pumped PumpStop
as_pumped cut gives = record { cut = cut; torn_at = Torn; write_fault = WriteFault; gives = gives }

-- A call that writes while it reads consumed these bytes, and wrote the text of their units.
pub record Streams {T E : Type 0} (reading : Reading T E) (passed : Passed) (result : Result T E)
    (taken : List ℕ) : Type 0 where
  pub taken_from : Consumes passed.left.before passed.left.after taken
  -- at most one byte past the limit
  pub within : length taken ≤ reading.cut.limit * reading.cut.size + 1
  pub done : IfOk result (λ answer. IsAtEnd passed.left.after × ((text : List ℕ)
      × reading.gives taken answer text × Appends passed.held.before passed.held.after text))
  -- the input ended within the unit with this number: the whole input was consumed, with some bytes of this unit
  pub torn : (unit : ℕ) → result ≡ Err (reading.torn_at unit) → IsAtEnd passed.left.after
      × (unit < reading.cut.limit) × (unit * reading.cut.size < length taken)
      × (length taken < unit * reading.cut.size + reading.cut.size)
  -- if no write failed, the output for all whole units was written
  pub put : result ≢ Err reading.write_fault → (text : List ℕ) × GivesText reading.gives taken text
      × Appends passed.held.before passed.held.after text
  -- a write failed: no byte after the unit of the failed write was consumed, and the output for the earlier units was
  -- written
  pub in_turn : result ≡ Err reading.write_fault
      → (n : ℕ) × (n < reading.cut.limit) × (length taken ≡ (n + 1) * reading.cut.size)
      × ((low high : List ℕ) × GivesText reading.gives (take (n * reading.cut.size) taken) low
      × GivesText reading.gives taken high × AppendsBetween passed.held.before passed.held.after low high)

-- A call that writes only after it read everything: the units of its input, the stops that come before the end of the
-- input, its stop for a failed write, and its result.
pub record WholeReading (T E : Type 0) : Type 1 where
  pub cut : Cut
  pub is_early : E → Type 0
  pub write_fault : E
  pub gives : List ℕ → T → List ℕ → Type 0

-- A call that writes only after it read everything consumed these bytes.
pub record WritesAtEnd {T E : Type 0} (reading : WholeReading T E) (passed : Passed) (result : Result T E)
    (taken : List ℕ) : Type 0 where
  pub taken_from : Consumes passed.left.before passed.left.after taken
  pub within : length taken ≤ reading.cut.limit * reading.cut.size + 1
  pub done : IfOk result (λ answer. IsAtEnd passed.left.after × ((text : List ℕ)
      × reading.gives taken answer text × Appends passed.held.before passed.held.after text))
  -- any other stop than a failed write: nothing was written
  pub stopped : (stop : E) → result ≡ Err stop → stop ≢ reading.write_fault
      → Appends passed.held.before passed.held.after []
  pub ended : (stop : E) → result ≡ Err stop → ¬ (reading.is_early stop) → IsAtEnd passed.left.after
  -- a write failed: the input was read to its end, and a prefix of the text was written
  pub cut : result ≡ Err reading.write_fault → IsAtEnd passed.left.after
      × ((text : List ℕ) × GivesText reading.gives taken text
      × AppendsPrefix passed.held.before passed.held.after text)
