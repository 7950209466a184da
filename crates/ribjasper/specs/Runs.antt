-- What the program does with its words.
use Rattle.std.specs.Prelude.{◌≡◌, ◌≢◌, ◌⊎◌, ◌↔◌, ◌-◌, ℕ, List, [], None, Some, Result, Ok, Err, String, drop, take, length}
use Rattle.std.specs.Io.Buffered.{reader_remaining}
use Rattle.std.specs.Io.KnownBytes.{Appends, Keeps}
use Rattle.std.specs.declared.alloc.Global.{Global}
use Rattle.std.specs.IoError.{error_kind}
use Rattle.std.specs.Process.{exit_status}
use Rattle.std.specs.Vec.Iter.{into_iter_items}
use Rattle.std.specs.declared.io.Error.{Error}
use Rattle.std.specs.declared.io.ErrorKind.TheVariants.{InvalidData}
use Rattle.std.specs.declared.process.ExitCode.{ExitCode}
use Rattle.std.specs.declared.vec.IntoIter.{IntoIter}
use Rattle.cdg_io.specs.Causes.{Counted, Rose}
use Rattle.cdg_io.specs.Change.{Bytes, Change, change, from_to}
use Rattle.cdg_io.specs.Reads.{input}
use Rattle.cdg_io.specs.Waiting.{Buffered, bytes_with_waiting}
use Rattle.cdg_io.specs.declared.ends.Source.{Ghosts as Source}
use Rattle.cdg_cmd.specs.Call.{call}
use Rattle.cdg_cmd.specs.Faults.{ReportsFaults}
use Rattle.cdg_cmd.specs.Line.{error_line, exit_of}
use Rattle.cdg_cmd.specs.Performs.{Performs}
use Rattle.cdg_cmd.specs.Spelling.{Spells}
use Rattle.cdg_cmd.specs.Splitting.{split_of}
use Rattle.cdg_cmd.specs.Words.{texts}
use Rattle.cdg_cmd.specs.declared.command.Command.{Command}
use Rattle.cdg_cmd.specs.declared.status.Status.{Status}
use Rattle.cdg_cmd.specs.declared.status.Status.TheVariants.{NoMemory, Usage, WriteFault}
use Rattle.ribjasper.specs.declared.inputs.InputReader.{InputReader}
use Rattle.ribjasper.specs.declared.machine.MachineStreams.{MachineStreams}
use Rattle.ribjasper.specs.declared.machine.RecordingWriter.{RecordingWriter}
use Rattle.ribjasper.specs.Inputs.{AreInputs, InputSource, IsNewSource}

-- the command's words of a line
abbrev pub words_of_command : List (String Global) → List (String Global)
words_of_command line = take (split_of line).words line

-- the names of its inputs
abbrev pub input_names : List (String Global) → List (String Global)
input_names line = drop (length line - (split_of line).names) line

-- An input of the machine reveals nothing about its bytes.
abbrev pub input_source : (I F O : Type 0) → Source (InputSource I F O)
input_source I F O = record {
  left = λ source. reader_remaining (λ _. None) source.inner;
  faults = λ source. source.faults;
  ends = λ source. Some source.tally.ends;
  fills = λ source. Some source.tally.fills;
}

-- The waiting bytes of an output were written; or some bytes still wait, and the status reports the failure.
pub record IsSettled {W : Type 0} (contents : W → Bytes) (out : Change (Buffered W))
    (answer status : Status) : Type 0 where
  pub settled : (out.after.waiting ≡ []) × (status ≡ answer)
      ⊎ (out.after.waiting ≢ []) × (status ≡ WriteFault)
  pub bytes : Keeps (bytes_with_waiting contents out.before) (bytes_with_waiting contents out.after)
  pub nothing : out.before.waiting ≡ [] → status ≡ answer

-- A command was run on the sources of two inputs and on an output, as the contract of `run` states.
pub record RunsOver {I F O W : Type 0} (contents : W → Bytes) (words : List (List ℕ))
    (first second : Change (InputSource I F O)) (out : Change (Buffered W)) (answer : Status) : Type 0 where
  pub usage : ((answer ≡ Usage) ↔ ((command : Command) → ¬ (Spells command words)))
      × (answer ≡ Usage → (first.after ≡ first.before) × (second.after ≡ second.before)
      × (out.after ≡ out.before))
  pub performs : (command : Command) → Spells command words → Performs command
      (input (input_source I F O) first.before first.after)
      (input (input_source I F O) second.before second.after)
      (change (bytes_with_waiting contents) out.before out.after)
      (first.before, second.before, out.before) (first.after, second.after, out.after) answer
  pub faults : ReportsFaults (call (λ s. s.faults) (λ s. s.faults) (λ s. s.faults)
      (first.before, second.before, out.before) (first.after, second.after, out.after)) answer

-- The words of a line were run over new sources of the inputs that it names and over an output. Then the waiting bytes of
-- the output were written.
pub record RunsLine (F : Type 0) {I O W : Type 0} (stdin : I) (openers : O × O) (contents : W → Bytes)
    (line : List (String Global)) (out : Change (Buffered W)) (status : Status) : Type 0 where
  pub first_input : InputReader I F O
  pub second_input : InputReader I F O
  pub inputs : AreInputs stdin openers (input_names line) first_input second_input
  pub first : Change (InputSource I F O)
  pub second : Change (InputSource I F O)
  pub first_is : IsNewSource first_input first.before
  pub second_is : IsNewSource second_input second.before
  -- the output and the status before the waiting bytes were written
  pub unsettled : Buffered W
  pub answer : Status
  pub runs : RunsOver contents (texts (words_of_command line)) first second
      (from_to out.before unsettled) answer
  pub settles : IsSettled contents (from_to unsettled out.after) answer status

-- The words of a line are the machine's words after the name of the program. If the machine reports that they are not
-- text, there are no words.
abbrev pub AreOwnWords : Result (IntoIter (String Global) Global) Error → List (String Global) → Type 0
AreOwnWords (Ok all) line = line ≡ drop 1 (into_iter_items all)
AreOwnWords (Err error) line = (error_kind error ≡ InvalidData) × (line ≡ [])

-- A new output over this writer, as the program makes it: it has room for 128 KiB, and at most 64 KiB wait after a put.
pub record IsNewOutput {W : Type 0} (writer : W) (out : Buffered (RecordingWriter W)) : Type 0 where
  pub over : out.inner.writer ≡ writer
  pub taken : out.inner.taken.bytes ≡ []
  pub waiting : out.waiting ≡ []
  pub faults : out.faults ≡ 0
  pub turn : out.turn ≡ 65536
  pub room : out.room ≡ 131072

-- the bytes that a writer has accepted
abbrev pub taken_bytes : {W : Type 0} → RecordingWriter W → Bytes
taken_bytes writer = Some writer.taken.bytes

-- The words from the machine were run on the inputs that they name, and on a new output, which reveals the bytes that
-- the writer accepted.
pub record RunsProgram (F : Type 0) {I O W : Type 0}
    (words : Result (IntoIter (String Global) Global) Error) (stdin : I)
    (openers : O × O) (writer : W) (status : Status) : Type 0 where
  pub line : List (String Global)
  pub own_words : AreOwnWords words line
  pub out : Change (Buffered (RecordingWriter W))
  pub new_output : IsNewOutput writer out.before
  pub runs : RunsLine F stdin openers taken_bytes line out status

-- The line of a status was written to a new error output over this writer, unless a write failed.
pub record WritesStatusLine {E : Type 0} (writer : E) (status : Status) : Type 0 where
  pub err : Change (Counted (RecordingWriter E))
  pub over : err.before.inner.writer ≡ writer
  pub taken : err.before.inner.taken.bytes ≡ []
  pub reported : Rose err.before.faults err.after.faults
      ⊎ Appends (taken_bytes err.before.inner) (taken_bytes err.after.inner) (error_line status)

-- The program ran and printed the line of its status; or an allocation for its words or a buffer failed, and it printed
-- the line of this status.
pub record EndsProgram (F : Type 0) {I O W E : Type 0}
    (words : Result (IntoIter (String Global) Global) Error)
    (machine : MachineStreams I O W E) (exit : ExitCode) : Type 0 where
  pub status : Status
  pub runs : RunsProgram F words machine.stdin machine.openers machine.stdout status ⊎ (status ≡ NoMemory)
  pub status_line : WritesStatusLine machine.stderr status
  pub exits : exit_status exit ≡ exit_of status
