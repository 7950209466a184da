-- A screen of a pressed stream is the screen of its file.
use Rattle.std.proofs.Common.{◌≡◌, ◌≢◌, ◌==◌, ℕ, ◌+◌, ◌-◌, ◌*◌, ◌/◌, ◌≤◌, List, length, drop, length-drop, ap, sym, subst, ◌∙◌, arith, Some, Result, Ok, Err, if◌then◌else◌}
use Rattle.std.proofs.Math.Nat.{div-mul-le_self}
use Rattle.std.proofs.lemmas.List.{length-map}
use Rattle.cdg_io.specs.Pump.{units_of}
use Rattle.raw_subcode.specs.Channels.{unit_size, block_of, blocks_of, program_symbols}
use Rattle.raw_subcode.specs.declared.form.Form.{Form}
use Rattle.disc_time.specs.Counts.{pause_blocks}
use Rattle.round_trips.specs.Damaged.{DamagedPress, IsFileText}
use Rattle.stream_stages.specs.Screen.{IsScreenAt, IsShownBy, Shows, moment}
use Rattle.stream_stages.specs.declared.played.Played.{Played}
use Rattle.stream_stages.specs.declared.played.PlayStop.{PlayStop}
use Rattle.stream_stages.specs.declared.played.PlayStop.TheVariants as play
use Rattle.stream_stages.proofs.Slots.{length-all_symbols, sized_drop}
use Rattle.stream_stages.proofs.Conversion.{length-units_of, units_sized, blocks_sized}
use Rattle.stream_stages.proofs.Restoring.{taken_all}
use Rattle.cdg_cmd.specs.Answer.{Does}
use Rattle.cdg_io.specs.Change.{Bytes, Change, from_to}
use Rattle.cdg_io.proofs.Frames.{passing}
use Rattle.cdg_screen.specs.Texts.{pixmap}
use Rattle.cdg_cmd.specs.Stops.{play_status}
use Rattle.cdg_cmd.specs.declared.command.Command.TheVariants.{Screen}
use Rattle.cdg_cmd.specs.declared.status.Status.{Status}
use Rattle.cdg_cmd.specs.declared.status.Status.TheVariants.{Done, Damaged, NoMemory}
use Rattle.cdg_cmd.proofs.WholeInputs.{both, unless_memory}
use Rattle.cdg_cmd.specs.Unpresses.{PutsFilePicture}

-- the number of program symbols in some bytes
program_length : (form : Form) (bytes : List ℕ) (lead_in : ℕ)
    → length (program_symbols form bytes lead_in) ≡ 96 * (length bytes / unit_size form - lead_in)
program_length form bytes lead_in =
    let units : List (List ℕ) = units_of (unit_size form) (length bytes / unit_size form) bytes in
    let sized =
    blocks_sized form (units_of (unit_size form) (length bytes / unit_size form) bytes)
    (units_sized (unit_size form) (length bytes / unit_size form) bytes
    (div-mul-le_self (length bytes) (unit_size form))) in
    length-all_symbols (drop lead_in (blocks_of form bytes))
    (sized_drop 96 lead_in (blocks_of form bytes) sized)
    ∙ ap (λ (m : ℕ). 96 * m) (length-drop lead_in (blocks_of form bytes)
    ∙ ap (λ (m : ℕ). m - lead_in) (length-map
    (units_of (unit_size form) (length bytes / unit_size form) bytes) (block_of form)
    ∙ length-units_of (unit_size form) (length bytes / unit_size form) bytes))

-- the law of the crate below
pub record FilesAreShown : Type 0 where
  pub text : (form : Form) (lead_in time : ℕ) (others : List ℕ) (press : DamagedPress form lead_in others)
      (text : List ℕ) (bad : ℕ) → time ≤ press.audio
      → IsScreenAt (moment form lead_in (pause_blocks + time)) others text bad
      → IsFileText press.file (4 * time) text
  pub bad : (form : Form) (lead_in time : ℕ) (others : List ℕ) (press : DamagedPress form lead_in others)
      (text : List ℕ) (bad : ℕ) → time ≤ press.audio
      → IsScreenAt (moment form lead_in (pause_blocks + time)) others text bad → bad ≡ 0

module _ (law : FilesAreShown) (form : Form) (lead_in time : ℕ) (all : List ℕ)
    (press : DamagedPress form lead_in all) (in_audio : time ≤ press.audio) where
  -- the program is longer than that time
  long_enough : pause_blocks + time ≤ length all / unit_size form - lead_in
  long_enough =
      omega (arith, program_length form all lead_in, press.damaged.size, press.pressed.carries.size, in_audio)

  file_put : (taken : List ℕ) (left' : Bytes) (out : Change Bytes) (answer : Result Played PlayStop)
      → Shows pixmap (moment form lead_in (pause_blocks + time)) (passing (from_to (Some all) left') out)
      answer taken
      → IsShownBy answer lead_in (pause_blocks + time) (unit_size form) (length all)
      → PutsFilePicture press.file (4 * time) out (play_status answer)
  file_put taken left' out (Ok played) shows answer =
      let (end, (text, is_played, put)) = shows.plays.done in
      let same : taken ≡ all = taken_all all left' taken shows.plays.taken_from end in
      let screen : IsScreenAt (moment form lead_in (pause_blocks + time)) all text played.bad =
      subst (λ (bytes : List ℕ). IsScreenAt (moment form lead_in (pause_blocks + time)) bytes text played.bad)
      same is_played.written in
      subst (λ (n : ℕ). PutsFilePicture press.file (4 * time) out (if n == 0 then Done else Damaged n))
      (sym (law.bad form lead_in time all press text played.bad in_audio screen))
      (text, law.text form lead_in time all press text played.bad in_audio screen, put)
  file_put taken left' out (Err play.ReadFault) shows answer = tt
  file_put taken left' out (Err play.WriteFault) shows answer = tt
  file_put taken left' out (Err (play.Torn block)) shows answer = absurd (answer.1 press.whole)
  file_put taken left' out (Err play.TooLong) shows answer = absurd (omega (arith, answer, press.few))
  file_put taken left' out (Err (play.PastEnd blocks)) shows answer =
      absurd (omega (arith, answer.2, answer.3, long_enough))
  file_put taken left' out (Err (play.Text why)) shows answer = absurd answer

  pub file_shown : (left' more more' : Bytes) (out : Change Bytes) (status : Status)
      → (status ≢ NoMemory
      → Does (Screen lead_in form (pause_blocks + time)) (both (Some all) left' more more' out) status)
      → PutsFilePicture press.file (4 * time) out status
  file_shown left' more more' out status does =
      unless_memory _ status (λ found.
      let d = does found in
      subst (λ (s : Status). PutsFilePicture press.file (4 * time) out s) (sym d.status_is)
      (file_put d.taken left' out d.answer d.did d.exactly.1))
