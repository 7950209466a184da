-- The input, the output and the result of a pump.
use Rattle.bit_lists.specs.Counting.{parts}
use Rattle.std.specs.Prelude.{◌≡◌, ◌≢◌, ◌<◌, ◌≤◌, ◌+◌, ◌*◌, ◌/◌, ◌%◌, ◌==◌, nat_lt, ℕ, ⊤, Some, None, min, List, [], length, Result, Ok, Err, IfOk, if◌then◌else◌}
use Rattle.std.specs.List.{concat}
use Rattle.std.specs.declared.option.Option.{Option}
use Rattle.std.specs.Io.KnownBytes.{Appends, Consumes, IsAtEnd}
use Rattle.cdg_io.specs.Causes.{Count, RoseOnce, counted_up}
use Rattle.cdg_io.specs.Change.{Fed, Moved}
use Rattle.cdg_io.specs.Moves.{AppendsBetween}
use Rattle.cdg_io.specs.Run.{run_state, run_gives}
use Rattle.cdg_io.specs.declared.pumping.Pumped.{Pumped}
use Rattle.cdg_io.specs.declared.pumping.PumpStop.{PumpStop}
use Rattle.cdg_io.specs.declared.pumping.PumpStop.TheVariants.{ReadFault, WriteFault, Torn, TooLong}

-- the first n units of `size` bytes each
abbrev pub units_of : ℕ → ℕ → List ℕ → List (List ℕ)
units_of size count bytes = parts count size bytes

-- the number of whole units in `len` bytes, at most the limit
abbrev pub whole : ℕ → ℕ → ℕ → ℕ
whole size limit len = min (len / size) limit

-- the steps of a stage on units of bytes: from a state and a unit to the next state, and to an optional output
pub record Machine (S : Type 0) : Type 0 where
  pub next : S → List ℕ → S
  pub gives : S → List ℕ → Option (List ℕ)

-- the size in bytes of the units of an input, and their maximum number
pub record Cut : Type 0 where
  pub size : ℕ
  pub limit : ℕ

-- the output of the stage for the first n units
abbrev pub given : {S : Type 0} → ℕ → Machine S → S → List ℕ → ℕ → List ℕ
given size machine s bytes n = concat (run_gives machine.next machine.gives s (units_of size n bytes))

-- the bytes of an output, if any
abbrev pub given_bytes : Option (List ℕ) → List ℕ
given_bytes None = []
given_bytes (Some bytes) = bytes

-- the result for an input of `len` bytes if no read fails
abbrev pub answer_of : ℕ → ℕ → ℕ → Result Pumped PumpStop
answer_of size limit len = if nat_lt (limit * size) len then Err TooLong
    else if len % size == 0 then Ok (record { units = len / size }) else Err (Torn (len / size))

-- The result is this one, or it is a fault.
abbrev pub IsUnlessFault : Result Pumped PumpStop → Result Pumped PumpStop → Type 0
IsUnlessFault (Err ReadFault) answer = ⊤
IsUnlessFault (Err WriteFault) answer = ⊤
IsUnlessFault result answer = result ≡ answer

-- The count of ends rose if and only if the input was read to its end.
abbrev pub ReportsEndOf : Result Pumped PumpStop → Count → Count → Type 0
ReportsEndOf (Ok pumped) before now = RoseOnce before now
ReportsEndOf (Err (Torn unit)) before now = RoseOnce before now
ReportsEndOf (Err TooLong) before now = now ≡ before
ReportsEndOf (Err ReadFault) before now = now ≡ before
ReportsEndOf (Err WriteFault) before now = now ≡ before

-- A count is n more than before, if it is counted.
abbrev pub RoseBy : ℕ → Count → Count → Type 0
RoseBy n before now = (n ≡ 0 → now ≡ before) × (0 < n → now ≡ counted_up n before)

-- Each whole unit was one full read, and so was the byte after the limit.
abbrev pub FillsUnits : ℕ → Result Pumped PumpStop → Count → Count → Type 0
FillsUnits limit (Ok pumped) before now = RoseBy pumped.units before now
FillsUnits limit (Err (Torn unit)) before now = RoseBy unit before now
FillsUnits limit (Err TooLong) before now = RoseBy (limit + 1) before now
FillsUnits limit (Err ReadFault) before now = (n : ℕ) × (n ≤ limit) × RoseBy n before now
FillsUnits limit (Err WriteFault) before now = (n : ℕ) × (n ≤ limit) × RoseBy n before now

-- These bytes were consumed. If they are a whole unit, the stage processed it; if the input ended within the unit, the
-- stage processed nothing.
pub record FeedsUnit {S : Type 0} (size : ℕ) (machine : Machine S) (fed : Fed S) (given : Option (List ℕ))
    (taken : List ℕ) : Type 0 where
  pub taken_from : Consumes fed.left.before fed.left.after taken
  pub step : length taken ≡ size → fed.state.after ≡ machine.next fed.state.before taken
  pub gave : length taken ≡ size → given ≡ machine.gives fed.state.before taken
  pub stays : length taken < size → fed.state.after ≡ fed.state.before
  pub ended : length taken < size → IsAtEnd fed.left.after

-- The pump consumed these bytes, they are n whole units, and the output of the stage for them was written.
pub record Works {S : Type 0} (size : ℕ) (machine : Machine S) (moved : Moved S) (n : ℕ)
    (taken : List ℕ) : Type 0 where
  pub taken_from : Consumes moved.left.before moved.left.after taken
  pub units : length taken ≡ n * size
  pub state : moved.state.after ≡ run_state machine.next moved.state.before (units_of size n taken)
  pub put : Appends moved.held.before moved.held.after (given size machine moved.state.before taken n)

-- A write failed within the output for unit n (counted from 0).
pub record StopsInTurn {S : Type 0} (size : ℕ) (machine : Machine S) (moved : Moved S) (taken : List ℕ)
    (n : ℕ) : Type 0 where
  -- no byte after that unit was consumed
  pub units : length taken ≡ (n + 1) * size
  -- the output for the earlier units was written, and a prefix of the output for this unit
  pub put : AppendsBetween moved.held.before moved.held.after (given size machine moved.state.before taken n)
      (given size machine moved.state.before taken (n + 1))

-- the number of whole units that were consumed
abbrev pub units_taken : Cut → List ℕ → ℕ
units_taken cut taken = whole cut.size cut.limit (length taken)

-- These bytes were consumed, the stage ran over their whole units, and its output was written.
pub record Pumps {S : Type 0} (cut : Cut) (machine : Machine S) (moved : Moved S)
    (result : Result Pumped PumpStop) (taken : List ℕ) : Type 0 where
  pub taken_from : Consumes moved.left.before moved.left.after taken
  -- at most one byte past the limit
  pub within : length taken ≤ cut.limit * cut.size + 1
  pub state : moved.state.after
      ≡ run_state machine.next moved.state.before (units_of cut.size (units_taken cut taken) taken)
  pub put : result ≢ Err WriteFault → Appends moved.held.before moved.held.after
      (given cut.size machine moved.state.before taken (units_taken cut taken))
  pub in_turn : result ≡ Err WriteFault
      → (n : ℕ) × (n < cut.limit) × StopsInTurn cut.size machine moved taken n
  pub done : IfOk result
      (λ p. IsAtEnd moved.left.after × (length taken ≡ p.units * cut.size) × (p.units ≤ cut.limit))
  pub torn : (unit : ℕ) → result ≡ Err (Torn unit) → IsAtEnd moved.left.after × (unit < cut.limit)
      × (unit * cut.size < length taken) × (length taken < unit * cut.size + cut.size)
  pub too_long : result ≡ Err TooLong → length taken ≡ cut.limit * cut.size + 1
  pub read_fault : result ≡ Err ReadFault → length taken < cut.limit * cut.size + 1
