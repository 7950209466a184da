-- Pressed packs are read back.
use Rattle.std.proofs.Common.{◌≡◌, ◌≢◌, ℕ, ◌+◌, ◌*◌, ◌≤◌, List, Some, None, IfSome, subst, arith}
use Rattle.std.specs.List.{concat}
use Rattle.disc_time.specs.Counts.{pause_blocks}
use Rattle.raw_subcode.specs.declared.form.Form.{Form}
use Rattle.rw_interleave.specs.Stream.{all_packs}
use Rattle.toc_model.specs.Places.{program_blocks}
use Rattle.stream_stages.specs.Convert.{IsDamagedStream}
use Rattle.round_trips.specs.Damaged.{DamagedPress}
use Rattle.cdg_cmd.specs.Answer.{Does, GivesBack}
use Rattle.cdg_io.specs.Change.{Bytes, Change}
use Rattle.cdg_cmd.specs.Headline.{written_packs}
use Rattle.cdg_cmd.specs.Keeps.{TakesNone}
use Rattle.cdg_cmd.specs.Unpresses.{PutsFilePicture, Unpresses}
use Rattle.cdg_cmd.specs.declared.command.Command.{Command}
use Rattle.cdg_cmd.specs.declared.command.Command.TheVariants.{Convert, Screen, State, Check, Q, Text, Author, Planar, Raw, Scratch, Gen, Trial, Merge, Thin, Press, Save, Resume}
use Rattle.cdg_cmd.specs.declared.status.Status.{Status}
use Rattle.cdg_cmd.specs.declared.status.Status.TheVariants.{NoMemory}
use Rattle.cdg_cmd.proofs.PressedShown.{FilesAreShown, file_shown}
use Rattle.cdg_cmd.proofs.SecondHalf.{GivesNoneBad, GivesPacks, converted_back, packs_written}
use Rattle.cdg_cmd.proofs.WholeInputs.{both}

-- the laws of the crates below
pub record PressesComeBack : Type 0 where
  pub stream : (form : Form) (lead_in : ℕ) (others : List ℕ) (press : DamagedPress form lead_in others)
      → IsDamagedStream form lead_in (program_blocks press.sheet press.audio) press.packs others
  pub shown : FilesAreShown
  pub packs : GivesPacks
  pub none_bad : GivesNoneBad

module _ (laws : PressesComeBack) (all : List ℕ) (left' more more' : Bytes) (out : Change Bytes)
    (status : Status) where
  packs_back : (lead_in : ℕ) (form : Form)
      → Does (Convert lead_in form) (both (Some all) left' more more' out) status
      → (press : DamagedPress form lead_in all)
      → GivesBack (concat (written_packs form press.packs)) out status
  packs_back lead_in form does press =
      let blocks : ℕ = program_blocks press.sheet press.audio in
      let words : all_packs form blocks press.packs ≡ written_packs form press.packs =
      packs_written form blocks press.packs press.pressed.carries.count (omega (arith)) in
      subst (λ (ps : List (List ℕ)). GivesBack (concat ps) out status) words
      (converted_back form lead_in left' more more' out status laws.packs laws.none_bad (Some all) does blocks
      press.packs (laws.stream form lead_in all press))

  picture_back : (lead_in : ℕ) (form : Form) (at time : ℕ) → at ≡ pause_blocks + time
      → (status ≢ NoMemory → Does (Screen lead_in form at) (both (Some all) left' more more' out) status)
      → (press : DamagedPress form lead_in all) → time ≤ press.audio
      → PutsFilePicture press.file (4 * time) out status
  picture_back lead_in form at time is does press in_audio =
      file_shown laws.shown form lead_in time all press in_audio left' more more' out status
      (subst (λ (t : ℕ).
      status ≢ NoMemory → Does (Screen lead_in form t) (both (Some all) left' more more' out) status) is does)

  unpressed : (command : Command)
      → (status ≢ NoMemory → Does command (both (Some all) left' more more' out) status)
      → (TakesNone command → status ≢ NoMemory)
      → Unpresses command all out status
  unpressed (Convert lead_in form) does never = λ press. packs_back lead_in form (does (never tt)) press
  unpressed (Screen lead_in form at) does never =
      λ press time is in_audio. picture_back lead_in form at time is does press in_audio
  unpressed (State lead_in form at) does never = tt
  unpressed (Check lead_in form) does never = tt
  unpressed (Q lead_in form) does never = tt
  unpressed (Text lead_in form) does never = tt
  unpressed (Author lead_in length) does never = tt
  unpressed Planar does never = tt
  unpressed Raw does never = tt
  unpressed (Scratch lead_in seed) does never = tt
  unpressed (Gen seed pictures) does never = tt
  unpressed (Trial seed pictures) does never = tt
  unpressed (Merge lead_in) does never = tt
  unpressed Thin does never = tt
  unpressed (Press lead_in length) does never = tt
  unpressed (Save lead_in) does never = tt
  unpressed (Resume at) does never = tt

pub pressed_back : PressesComeBack
    → (command : Command) (left left' more more' : Bytes) (out : Change Bytes) (status : Status)
    → (status ≢ NoMemory → Does command (both left left' more more' out) status)
    → (TakesNone command → status ≢ NoMemory)
    → IfSome left (λ all. Unpresses command all out status)
pressed_back laws command None left' more more' out status does never = tt
pressed_back laws command (Some all) left' more more' out status does never =
    unpressed laws all left' more more' out status command does never
