-- The line that the program runs, and its words.
use Rattle.std.proofs.Common.{◌≡◌, ◌∙◌, [], List, Result, Ok, Err, IfOk, String, ap, subst, sym}
use Rattle.std.specs.declared.alloc.Global.{Global}
use Rattle.std.specs.declared.io.Error.{Error}
use Rattle.std.specs.declared.vec.IntoIter.{IntoIter}
use Rattle.cdg_io.specs.Change.{Bytes, Change, from_to}
use Rattle.cdg_io.specs.Waiting.{Buffered}
use Rattle.cdg_cmd.specs.Words.{texts}
use Rattle.cdg_cmd.specs.declared.status.Status.{Status}
use Rattle.ribjasper.specs.declared.inputs.InputReader.{InputReader}
use Rattle.ribjasper.specs.declared.machine.RecordingWriter.{RecordingWriter}
use Rattle.ribjasper.specs.Inputs.{AreInputs, InputSource, IsNewSource}
use Rattle.ribjasper.specs.Runs.{AreOwnWords, IsSettled, RunsLine, RunsOver, RunsProgram, words_of_command, input_names, taken_bytes}

-- a run over the words and the names in a line is a run of the line
pub runs_line : (F : Type 0) {I O W : Type 0} (stdin : I) (openers : O × O) (contents : W → Bytes)
    (line words names : List (String Global)) (one other : InputReader I F O)
    (first second : Change (InputSource I F O)) (old unsettled new : Buffered W)
    (answer status : Status) → words ≡ words_of_command line → names ≡ input_names line
    → AreInputs stdin openers names one other → IsNewSource one first.before
    → IsNewSource other second.before
    → RunsOver contents (texts words) first second (from_to old unsettled) answer
    → IsSettled contents (from_to unsettled new) answer status
    → RunsLine F stdin openers contents line (from_to old new) status
runs_line F stdin openers contents line words names one other first second old unsettled new answer status
    of_words
    of_names
    inputs first_is second_is runs settles =
    let Inputs : List (String Global) → Type 0 = λ ns. AreInputs stdin openers ns one other in
    let Runs : List (String Global) → Type 0 =
    λ ws. RunsOver contents (texts ws) first second (from_to old unsettled) answer in
    record {
      first_input = one;
      second_input = other;
      inputs = subst Inputs of_names inputs;
      first = first;
      second = second;
      first_is = first_is;
      second_is = second_is;
      unsettled = unsettled;
      answer = answer;
      runs = subst Runs of_words runs;
      settles = settles;
    }

-- a run of the line over a new output is a run of the program
pub runs_program : (F : Type 0) {I O W : Type 0} (words : Result (IntoIter (String Global) Global) Error)
    (stdin : I)
    (openers : O × O) (writer : W) (recorder : RecordingWriter W) (line items : List (String Global))
    (old new : Buffered (RecordingWriter W)) (result : Result Status Error) → AreOwnWords words items
    → line ≡ items → recorder.writer ≡ writer → recorder.taken.bytes ≡ []
    → old ≡ record { inner = recorder; waiting = []; faults = 0; failed = 0; turn = 65536; room = 131072 }
    → IfOk result (RunsLine F stdin openers taken_bytes line (from_to old new))
    → IfOk result (RunsProgram F words stdin openers writer)
runs_program F words stdin openers writer recorder line items old new (Err error) own items_are over nothing
    made runs = runs
runs_program F words stdin openers writer recorder line items old new (Ok status) own items_are over nothing
    made runs =
    let Own : List (String Global) → Type 0 = AreOwnWords words in
    record {
      line = line;
      own_words = subst Own (sym items_are) own;
      out = from_to old new;
      new_output = record {
        over = ap (λ s. s.inner.writer) made ∙ over;
        taken = ap (λ s. s.inner.taken.bytes) made ∙ nothing;
        waiting = ap (λ s. s.waiting) made;
        faults = ap (λ s. s.faults) made;
        turn = ap (λ s. s.turn) made;
        room = ap (λ s. s.room) made;
      };
      runs = runs;
    }
