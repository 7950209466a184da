-- If everything is accepted, a stream is written.
use Rattle.std.proofs.Common.{◌≡◌, ℕ, List, Ok, Some, None, IfSome, ◌⊎◌, inl, inr}
use Rattle.cue_sheet.specs.CueSheet.{CueSheet}
use Rattle.picture_script.specs.Script.{Drawing}
use Rattle.picture_script.specs.ScriptGrammar.{read_script}
use Rattle.pack_schedule.specs.Schedule.{IsLate}
use Rattle.subcode_author.specs.Authored.{disc_of}
use Rattle.subcode_author.specs.AuthorAnswer.{IsAccepted, IsAuthorStop}
use Rattle.subcode_author.specs.declared.stops.AuthorStop.{AuthorStop}
use Rattle.subcode_author.specs.declared.stops.AuthorStop.TheVariants as stop
use Rattle.cdg_cmd.specs.Authors.{IsScriptText, IsSheetText}
use Rattle.cdg_io.specs.Change.{Bytes, Change}
use Rattle.cdg_cmd.specs.Headline.{WritesOrIsLate}
use Rattle.cdg_cmd.specs.declared.status.Status.{Status}
use Rattle.cdg_cmd.specs.declared.status.Status.TheVariants.{Done, Damaged, Usage, Refused, Late, ReadFault, WriteFault, NoMemory}
use Rattle.run_laws.specs.Refused.{Writes}

module _ (sheet : CueSheet) (script : List Drawing) (lead_in audio : ℕ) (out : Change Bytes) where
  -- if everything is accepted, no picture is late
  module _ (accepted : IsAccepted sheet script lead_in audio) (Pixels : Type 0)
      (pixels : (text : List ℕ) → read_script text ≡ Ok script → Pixels)
      (not_both : Pixels → (why : AuthorStop) → IsAuthorStop sheet script lead_in audio why
      → (why ≡ stop.NoMemory) ⊎ (why ≡ stop.WriteFault)) where
    never_late : Pixels → (picture need free : ℕ) → IsLate script picture need free → ⊥
    never_late in_range picture need free late =
        elim (not_both in_range (stop.Late picture need free) (accepted.disc, accepted.room, late)) [
          | inl memory ↦ absurd (cc)
          | inr fault ↦ absurd (cc)
        ]

    of_written : (status : Status) → Pixels → WritesOrIsLate (disc_of sheet script lead_in audio) out status
        → Writes (disc_of sheet script lead_in audio) out status
    of_written Done in_range written = written.1
    of_written (Damaged n) in_range written = written
    of_written Usage in_range written = written
    of_written (Refused why) in_range written = written
    of_written (Late picture need free) in_range written = never_late in_range picture need free written.0
    of_written (ReadFault which) in_range written = tt
    of_written WriteFault in_range written = tt
    of_written NoMemory in_range written = tt

    pub accepted_written : (left more : Bytes) (status : Status)
        → IfSome left (λ cue. IfSome more (λ text. IsSheetText cue sheet → IsScriptText text script
        → WritesOrIsLate (disc_of sheet script lead_in audio) out status))
        → IfSome left (λ cue. IfSome more (λ text. IsSheetText cue sheet → IsScriptText text script
        → Writes (disc_of sheet script lead_in audio) out status))
    accepted_written None more status written = tt
    accepted_written (Some cue) None status written = tt
    accepted_written (Some cue) (Some text) status written = λ sheet_is script_is.
        of_written status (pixels text script_is.reads) (written sheet_is script_is)
