-- The screen at a moment of a stream.
use Rattle.std.specs.Prelude.{◌≡◌, ◌≢◌, ℕ, ◌-◌, ◌*◌, ◌/◌, ◌%◌, ◌<◌, ◌≤◌, ⊤, List, [], ◌∷◌, length, take, Option, Some, None, Result, Ok, Err, IfOk}
use Rattle.cdg_io.specs.Change.{Passed}
use Rattle.cdg_io.specs.Streams.{WritesAtEnd}
use Rattle.rw_interleave.specs.Interleave.{whole_packs}
use Rattle.raw_subcode.specs.Channels.{unit_size, program_symbols}
use Rattle.raw_subcode.specs.declared.form.Form.{Form}
use Rattle.rw_interleave.specs.Stream.{IsRecovered, bad_count}
use Rattle.cdg_instructions.specs.Instruction.{Means}
use Rattle.cdg_instructions.specs.declared.instr.Instr.{Instr}
use Rattle.cdg_screen.specs.Standing.{Standing, blank, standing_after}
use Rattle.cdg_screen.specs.Texts.{pixmap, state_text}
use Rattle.raw_subcode.specs.Sizes.{most_units}
use Rattle.stream_stages.specs.Calls.{at_end, blocks_played}
use Rattle.stream_stages.specs.declared.played.Played.{Played}
use Rattle.stream_stages.specs.declared.played.PlayStop.{PlayStop}
use Rattle.stream_stages.specs.declared.played.PlayStop.TheVariants.{ReadFault, WriteFault, Torn, TooLong, PastEnd, Text}

-- The instructions are the meanings of the codewords, in order. A word without a codeword has none.
abbrev pub AreMeant : List (Option (List ℕ)) → List Instr → Type 0
AreMeant [] instrs = instrs ≡ []
AreMeant (None ∷ rest) instrs = AreMeant rest instrs
AreMeant (Some word ∷ rest) [] = ⊥
AreMeant (Some word ∷ rest) (instr ∷ instrs) = Means word instr × AreMeant rest instrs

-- These are the instructions of the packs that are complete at the time.
abbrev pub AreShown : List (Option (List ℕ)) → ℕ → List Instr → Type 0
AreShown found time instrs = AreMeant (take (whole_packs time) found) instrs

-- a moment of a stream: the form, the number of lead-in blocks, and the number of program blocks before the moment
pub record Moment : Type 0 where
  pub form : Form
  pub lead_in : ℕ
  pub time : ℕ

-- makes a moment
abbrev pub moment : Form → ℕ → ℕ → Moment
moment form lead_in time = record { form = form; lead_in = lead_in; time = time }

-- The text is what `write` makes from the screen at a moment. `bad` counts the bad words before the moment.
pub record IsWrittenAt (write : Standing → List ℕ) (at : Moment) (bytes text : List ℕ)
    (bad : ℕ) : Type 0 where
  pub found : List (Option (List ℕ))
  pub recovered : IsRecovered at.form (program_symbols at.form bytes at.lead_in) found
  pub instrs : List Instr
  pub shown : AreShown found at.time instrs
  pub text_is : text ≡ write (standing_after blank instrs)
  pub bad_is : bad ≡ bad_count (take (whole_packs at.time) found)

-- The text is the pixmap of the screen at a moment.
abbrev pub IsScreenAt : Moment → List ℕ → List ℕ → ℕ → Type 0
IsScreenAt at bytes text bad = IsWrittenAt pixmap at bytes text bad

-- The text has the lines of the state at a moment.
abbrev pub IsStateAt : Moment → List ℕ → List ℕ → ℕ → Type 0
IsStateAt at bytes text bad = IsWrittenAt state_text at bytes text bad

-- The program in these bytes ends before the moment, after this number of blocks.
abbrev pub EndsBefore : Moment → List ℕ → ℕ → Type 0
EndsBefore at bytes blocks = (length bytes % unit_size at.form ≡ 0)
    × (blocks ≡ blocks_played at.form at.lead_in bytes) × (blocks < at.time)

-- A call that shows a moment consumed these bytes. It writes at the end, if the program reaches the moment.
pub record Shows (write : Standing → List ℕ) (at : Moment) (passed : Passed)
    (result : Result Played PlayStop) (taken : List ℕ) : Type 0 where
  pub plays : WritesAtEnd (at_end (IsWrittenAt write at) at.form at.lead_in) passed result taken
  pub reached : IfOk result (λ played. at.time ≤ played.blocks)
  pub past_end : (blocks : ℕ) → result ≡ Err (PastEnd blocks) → EndsBefore at taken blocks

-- This is the result for an input of `len` bytes, in units of `size` bytes, if no read and no write fails.
abbrev pub IsShownBy : Result Played PlayStop → ℕ → ℕ → ℕ → ℕ → Type 0
IsShownBy (Ok played) lead_in time size len = (len ≤ most_units * size) × (len % size ≡ 0)
    × (time ≤ len / size - lead_in)
IsShownBy (Err (PastEnd blocks)) lead_in time size len = (len ≤ most_units * size) × (len % size ≡ 0)
    × (blocks ≡ len / size - lead_in) × (blocks < time)
IsShownBy (Err (Torn block)) lead_in time size len = (len ≤ most_units * size) × (len % size ≢ 0)
    × (block ≡ len / size)
IsShownBy (Err TooLong) lead_in time size len = most_units * size < len
IsShownBy (Err ReadFault) lead_in time size len = ⊤
IsShownBy (Err WriteFault) lead_in time size len = ⊤
IsShownBy (Err (Text fault)) lead_in time size len = ⊥
