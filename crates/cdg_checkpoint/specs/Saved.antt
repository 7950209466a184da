-- The checkpoint of a stream.
use Rattle.std.specs.Prelude.{◌≡◌, ℕ, ◌-◌, ◌/◌, Bool, IsTrue, List, ◌++◌, length, drop, replicate, min, Option, Result, Ok, Err}
use Rattle.cdg_io.specs.Streams.{WholeReading, WritesAtEnd}
use Rattle.cdg_io.specs.Causes.{Count}
use Rattle.cdg_io.specs.Reads.{EndReportedUnless}
use Rattle.std.specs.Io.KnownBytes.{Appends}
use Rattle.cdg_io.specs.Change.{Bytes, Change, Passed}
use Rattle.cdg_io.specs.Moves.{AppendsPrefix}
use Rattle.cdg_io.specs.declared.pumping.Pumped.{Pumped}
use Rattle.cdg_io.specs.declared.pumping.PumpStop.{PumpStop}
use Rattle.cdg_io.specs.declared.pumping.PumpStop.TheVariants.{WriteFault}
use Rattle.raw_subcode.specs.Channels.{program_symbols}
use Rattle.raw_subcode.specs.Sizes.{block_bytes, most_units}
use Rattle.raw_subcode.specs.declared.form.Form.TheVariants.{Raw}
use Rattle.rw_interleave.specs.Stream.{IsRecovered, bad_count}
use Rattle.cdg_instructions.specs.declared.instr.Instr.{Instr}
use Rattle.cdg_screen.specs.Standing.{blank, standing_after}
use Rattle.cdg_checkpoint.specs.Checkpoint.{Checkpoint, file_of}
use Rattle.cdg_checkpoint.specs.Table.{slots_bytes}
use Rattle.stream_stages.specs.Calls.{is_early}
use Rattle.stream_stages.specs.Screen.{AreMeant}
use Rattle.stream_stages.specs.Watch.{play_stop}

-- the last `count` symbols, with zeros before the first
abbrev pub last_symbols : ℕ → List ℕ → List ℕ
last_symbols count symbols = drop (length symbols) (replicate count 0 ++ symbols)

-- This is the checkpoint after all blocks of a stream of raw blocks. The first `lead_in` of them are the lead-in.
pub record IsCheckpointOf (bytes : List ℕ) (lead_in : ℕ) (c : Checkpoint) : Type 0 where
  pub found : List (Option (List ℕ))
  pub recovered : IsRecovered Raw (program_symbols Raw bytes lead_in) found
  pub instrs : List Instr
  pub meant : AreMeant found instrs
  pub to_come_is : c.to_come ≡ lead_in - length bytes / block_bytes
  pub lead_in_is : c.lead_in ≡ min (length bytes / block_bytes) lead_in
  pub program_is : c.program ≡ length bytes / block_bytes - lead_in
  pub bad_is : c.bad ≡ bad_count found
  pub slots_are : c.slots ≡ last_symbols slots_bytes (program_symbols Raw bytes lead_in)
  pub stands : c.standing ≡ standing_after blank instrs

-- The result is that for whole blocks, and the text is the file of their checkpoint.
pub record IsSaved (lead_in : ℕ) (bytes : List ℕ) (pumped : Pumped) (text : List ℕ) : Type 0 where
  pub units : pumped.units ≡ length bytes / block_bytes
  pub checkpoint : Checkpoint
  pub is : IsCheckpointOf bytes lead_in checkpoint
  pub text_is : text ≡ file_of checkpoint

-- whether a stop comes before the end of the input
abbrev pub is_before_end : PumpStop → Bool
is_before_end stop = is_early (play_stop stop)

-- the reading of a call that writes the file of a checkpoint
abbrev pub saving : ℕ → WholeReading Pumped PumpStop
saving lead_in = record {
  cut = record { size = block_bytes; limit = most_units };
  is_early = λ stop. IsTrue (is_before_end stop);
  write_fault = WriteFault;
  gives = IsSaved lead_in;
}

-- A call read these bytes and writes the file of their checkpoint at the end.
abbrev pub Saves : ℕ → Passed → Result Pumped PumpStop → List ℕ → Type 0
Saves lead_in passed result taken = WritesAtEnd (saving lead_in) passed result taken

-- This file is kept after these bytes were read. If all was read, it is the file of the checkpoint after them, and it was
-- written, or a prefix of it if a write failed. Otherwise it is the file that was kept before.
abbrev pub KeepsFile : ℕ → List ℕ → Change Bytes → Change (List ℕ) → Result Pumped PumpStop → Type 0
KeepsFile lead_in taken held file (Ok pumped) = IsSaved lead_in taken pumped file.after
    × Appends held.before held.after file.after
KeepsFile lead_in taken held file (Err WriteFault) = (pumped : Pumped)
    × IsSaved lead_in taken pumped file.after × AppendsPrefix held.before held.after file.after
KeepsFile lead_in taken held file (Err stop) = file.after ≡ file.before

-- The end of the input was recorded once, unless the call stopped before it.
abbrev pub EndsAsSaved : Result Pumped PumpStop → Count → Count → Type 0
EndsAsSaved = EndReportedUnless is_before_end
