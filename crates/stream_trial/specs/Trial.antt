-- What a trial of a seed writes.
use Rattle.std.specs.Prelude.{◌≡◌, ℕ, ◌+◌, ◌*◌, List, ◌++◌, length, sum_by, Result, Ok, Err, OnOk}
use Rattle.std.specs.Io.KnownBytes.{Appends}
use Rattle.bit_lists.specs.Counting.{below}
use Rattle.cdg_io.specs.Causes.{ReportsFault}
use Rattle.cdg_io.specs.Change.{Bytes}
use Rattle.cdg_io.specs.Moves.{AppendsPrefix}
use Rattle.disc_time.specs.Counts.{pause_blocks}
use Rattle.raw_subcode.specs.Channels.{program_symbols}
use Rattle.raw_subcode.specs.declared.form.Form.TheVariants.{Raw}
use Rattle.rw_interleave.specs.Interleave.{whole_packs}
use Rattle.cue_sheet.specs.CueSheet.{CueSheet}
use Rattle.cue_sheet.specs.Grammar.{read_cue}
use Rattle.picture_script.specs.Script.{Drawing, pictures}
use Rattle.picture_script.specs.ScriptGrammar.{read_script}
use Rattle.pack_schedule.specs.PlannedChange.{planned_change}
use Rattle.cdg_workload.specs.Script.{generated_script}
use Rattle.cdg_workload.specs.Scratches.{scratched}
use Rattle.stream_trial.specs.TrialSheet.{trial_text}
use Rattle.subcode_author.specs.Authored.{IsWrittenStream, disc_of}
use Rattle.stream_trial.specs.Differing.{differing}
use Rattle.stream_trial.specs.TrialLines.{input_lines, output_lines}
use Rattle.stream_trial.specs.declared.trying.TrialStop.{TrialStop}
use Rattle.stream_trial.specs.declared.trying.TrialStop.TheVariants.{NoMemory, WriteFault}

-- the blocks of audio of a trial with `count` pictures: the last picture is held for twenty blocks
abbrev pub trial_audio : ℕ → ℕ
trial_audio count = 800 * count + 20

-- the blocks of its program: a pause comes before the audio
abbrev pub trial_blocks : ℕ → ℕ
trial_blocks count = pause_blocks + trial_audio count

-- the instructions of all changes of a script
unfoldable pub all_changes : List Drawing → ℕ
all_changes script = sum_by (λ k. length (planned_change script k)) (below (pictures script))

-- This is the text of a trial, made from the stream of the generated script and the same stream with scratches. No word is
-- bad, and every picture is shown when it is ready.
pub record IsTrial (seed count : ℕ) (text : List ℕ) : Type 0 where
  pub sheet : CueSheet
  pub sheet_is : read_cue trial_text ≡ Ok sheet
  pub script : List Drawing
  pub script_is : read_script (generated_script seed count) ≡ Ok script
  pub bytes : List ℕ
  pub packs : List (List ℕ)
  pub authored : IsWrittenStream (disc_of sheet script 0 (trial_audio count)) bytes packs
  pub text_is :
      let symbols = program_symbols Raw bytes 0 in
      let others = program_symbols Raw (scratched 0 seed bytes) 0 in
      let number = whole_packs (trial_blocks count) in
      text ≡ input_lines seed count (trial_blocks count) number (all_changes script)
      ++ output_lines (differing 1 number symbols others) (differing 2 number symbols others) 0 count

-- This is the output of a call that writes the lines of a trial, for an output that reveals its bytes and its faults.
pub record WritesTrial {T K : Type 0} (held : K → Bytes) (faults : K → ℕ) (seed count : ℕ) (before after : K)
    (result : Result T TrialStop) : Type 0 where
  -- the lines were written
  pub lines : OnOk result
      ((text : List ℕ) × IsTrial seed count text × Appends (held before) (held after) text)
  pub write_fault : ReportsFault WriteFault (faults before) (faults after) result
  -- a write failed, and a prefix of them was written
  pub part : result ≡ Err WriteFault
      → (text : List ℕ) × IsTrial seed count text × AppendsPrefix (held before) (held after) text
  -- memory ran out, and nothing was written
  pub untouched : result ≡ Err NoMemory → after ≡ before
