-- The inputs of the program.
use Rattle.std.specs.Prelude.{◌≡◌, ℕ, ⊤, List, [], ◌∷◌, Option, Some, None, Result, Ok, Err, IsErr, String, string_bytes}
use Rattle.std.specs.Io.Buffered.{reader_buffer, reader_capacity, reader_inner}
use Rattle.std.specs.declared.alloc.Global.{Global}
use Rattle.std.specs.declared.io.Error.{Error}
use Rattle.std.specs.declared.io.buffered.BufReader.{BufReader}
use Rattle.cdg_io.specs.Causes.{CountedReader, nothing_reported}
use Rattle.ribjasper.specs.declared.inputs.InputReader.{InputReader}
use Rattle.ribjasper.specs.declared.inputs.InputReader.TheVariants.{Empty, Missing, Named, Standard, Unopened}

-- one read: the states and the bytes of a buffer before and after it, and its result
abbrev pub ReadAnswer : Type 0 → Type 1
ReadAnswer X = X → X → List ℕ → List ℕ → Result ℕ Error → Type 0

-- the result of the machine when it opened the file with a name
abbrev pub OpenAnswer : Type 0 → Type 0 → Type 1
OpenAnswer O F = O → List ℕ → Result F Error → Type 0

-- the opener and the name of a file that is opened when it is first read
abbrev pub unopened_file : {I F O : Type 0} → InputReader I F O → Option (O × List ℕ)
unopened_file (Unopened opener name) = Some (opener, name.now)
unopened_file (Standard stdin opener) = None
unopened_file (Named file) = None
unopened_file Missing = None
unopened_file (Empty opener) = None

-- The input is the file of this name, and this opener will open it.
abbrev pub IsUnopened : {I F O : Type 0} → O → String Global → InputReader I F O → Type 0
IsUnopened opener name reader = unopened_file reader ≡ Some (opener, string_bytes name)

-- The two inputs for the at most two names of a line: the files with these names, in order. Without names, they are
-- standard input and no input. An opener for which there is no name stays unused.
abbrev pub AreInputs : {I F O : Type 0} → I → O × O → List (String Global) → InputReader I F O
    → InputReader I F O → Type 0
AreInputs stdin openers [] first second = (first ≡ Standard stdin openers.0) × (second ≡ Empty openers.1)
AreInputs stdin openers (name ∷ []) first second =
    IsUnopened openers.0 name first × (second ≡ Empty openers.1)
AreInputs stdin openers (one ∷ other ∷ []) first second =
    IsUnopened openers.0 one first × IsUnopened openers.1 other second
AreInputs stdin openers names first second = ⊤

-- an input after the machine opened its file, or failed to open it
abbrev pub opened : {I F O : Type 0} → Result F Error → InputReader I F O
opened (Ok file) = Named file
opened (Err error) = Missing

-- The machine was asked once for the file of an input: the file is open or could not be opened. Any other input is
-- unchanged.
abbrev pub OpensAs : {I F O : Type 0} → OpenAnswer O F → InputReader I F O → InputReader I F O → Type 0
OpensAs opens (Unopened opener name) reader =
    (answer : Result _ Error) × opens opener name.now answer × (reader ≡ opened answer)
OpensAs opens (Standard stdin opener) reader = reader ≡ Standard stdin opener
OpensAs opens (Named file) reader = reader ≡ Named file
OpensAs opens Missing reader = reader ≡ Missing
OpensAs opens (Empty opener) reader = reader ≡ Empty opener

-- An open input was read once, and the result is that of standard input or of its file. An input that could not be
-- opened fails at each read, and an input without a file is at its end.
abbrev pub ReadsAs : {I F O : Type 0} → ReadAnswer I → ReadAnswer F → InputReader I F O → InputReader I F O
    → List ℕ → List ℕ → Result ℕ Error → Type 0
ReadsAs stdin_reads file_reads (Standard stdin opener) after old new answer =
    (left : _) × (after ≡ Standard left opener) × stdin_reads stdin left old new answer
ReadsAs stdin_reads file_reads (Named file) after old new answer =
    (left : _) × (after ≡ Named left) × file_reads file left old new answer
ReadsAs stdin_reads file_reads Missing after old new answer = (after ≡ Missing) × IsErr answer
ReadsAs stdin_reads file_reads (Empty opener) after old new answer = (after ≡ Empty opener) × (answer ≡ Ok 0)
ReadsAs stdin_reads file_reads (Unopened opener name) after old new answer = ⊥

-- the maximum number of bytes that one read of an input returns: as much as a pipe holds, or whole pages and whole blocks
abbrev pub most_a_read : {I F O : Type 0} → InputReader I F O → ℕ
most_a_read (Standard stdin opener) = 65536
most_a_read (Unopened opener name) = 61440
most_a_read (Named file) = 61440
most_a_read Missing = 61440
most_a_read (Empty opener) = 61440

-- an input behind a buffer, with counts
abbrev pub InputSource : Type 0 → Type 0 → Type 0 → Type 0
InputSource I F O = CountedReader (BufReader (InputReader I F O) Global)

-- A source is of this input, and nothing of it was read yet.
pub record IsNewSource {I F O : Type 0} (reader : InputReader I F O) (source : InputSource I F O)
    : Type 0 where
  pub of : reader_inner source.inner ≡ reader
  pub empty : reader_buffer source.inner ≡ []
  pub room : reader_capacity source.inner ≡ most_a_read reader
  pub faults : source.faults ≡ 0
  pub tally : source.tally ≡ nothing_reported
