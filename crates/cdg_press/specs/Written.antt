-- The output of a call that presses a file into a stream.
use Rattle.std.specs.Prelude.{◌≡◌, ◌≢◌, ℕ, List, Result, Err, IfErr, OnOk}
use Rattle.std.specs.Io.KnownBytes.{Appends}
use Rattle.cdg_io.specs.Causes.{ReportsFault}
use Rattle.cdg_io.specs.Change.{Bytes, change}
use Rattle.cdg_io.specs.Moves.{AppendsPrefix}
use Rattle.toc_model.specs.Places.{layout_of}
use Rattle.stream_writer.specs.Given.{PutsStreamPart, framing_of}
use Rattle.stream_writer.specs.Needs.{text_packs}
use Rattle.cdg_press.specs.Pressed.{IsPackAfter, IsPressed, Press, file_begin}
use Rattle.cdg_press.specs.declared.stops.PressStop.{PressStop}
use Rattle.cdg_press.specs.declared.stops.PressStop.TheVariants.{WriteFault}

-- This is the output of a call that presses a file, for an output that reveals its bytes and its faults.
pub record WritesPressed {T K : Type 0} (held : K → Bytes) (faults : K → ℕ) (press : Press) (before after : K)
    (result : Result T PressStop) : Type 0 where
  -- a pressed stream was written
  pub pressed : OnOk result ((bytes : List ℕ) × (packs : List (List ℕ)) × IsPressed press bytes packs
      × Appends (held before) (held after) bytes)
  -- if the call stopped for any other reason than a failed write, the output is unchanged
  pub untouched : IfErr result (λ stop. stop ≢ WriteFault → after ≡ before)
  pub write_fault : ReportsFault WriteFault (faults before) (faults after) result
  -- a write failed, and a prefix of the lead-in and of program blocks with packs of the file was written
  pub part : result ≡ Err WriteFault → (n : ℕ) × (packs : List (List ℕ))
      × PutsStreamPart (framing_of (layout_of press.sheet press.audio) (text_packs press.sheet) press.lead_in)
      (IsPackAfter file_begin press.file) (change held before after) n packs
  -- the output is then a prefix of a pressed stream
  pub prefix : result ≡ Err WriteFault → (bytes : List ℕ) × (packs : List (List ℕ))
      × IsPressed press bytes packs × AppendsPrefix (held before) (held after) bytes
