-- The input, the output and the status of a command that transforms each block of a stream.
use Rattle.std.specs.Prelude.{◌≡◌, ℕ, ◌/◌, List, length, Result, IfSome}
use Rattle.raw_subcode.specs.Sizes.{block_bytes, most_units}
use Rattle.cdg_io.specs.Pump.{IsUnlessFault, answer_of}
use Rattle.cdg_io.specs.Streams.{Streams, as_pumped}
use Rattle.cdg_io.specs.declared.pumping.Pumped.{Pumped}
use Rattle.cdg_io.specs.declared.pumping.PumpStop.{PumpStop}
use Rattle.cdg_io.specs.Change.{Bytes, Passed}
use Rattle.cdg_cmd.specs.Call.{Call, through}
use Rattle.cdg_cmd.specs.Endings.{EndsWith}
use Rattle.cdg_cmd.specs.Stops.{pump_status}
use Rattle.cdg_cmd.specs.declared.status.Status.{Status}

-- The result counts the blocks, and this text is written for them.
pub record IsTurned (turned : List ℕ → List ℕ → Type 0) (bytes : List ℕ) (pumped : Pumped)
    (text : List ℕ) : Type 0 where
  pub units : pumped.units ≡ length bytes / block_bytes
  pub written : turned bytes text

-- Blocks were changed, and written as they were read.
abbrev pub ChangesBlocks : (List ℕ → Pumped → List ℕ → Type 0) → Passed → Result Pumped PumpStop → List ℕ
    → Type 0
ChangesBlocks gives passed answer taken =
    Streams (as_pumped (record { size = block_bytes; limit = most_units }) gives) passed answer taken

-- A command that changes blocks ended with this status.
abbrev pub TurnsWith : (List ℕ → Pumped → List ℕ → Type 0) → Call Bytes → Status → Type 0
TurnsWith gives call status =
    EndsWith pump_status (ChangesBlocks gives (through call))
    (λ answer. IfSome call.first.before
    (λ all. IsUnlessFault answer (answer_of block_bytes most_units (length all))))
    status
