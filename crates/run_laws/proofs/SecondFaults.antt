-- The statuses that report a fault of the second input.
use Rattle.std.proofs.Common.{◌≡◌, ◌≢◌, ◌==◌, ℕ, Bool, true, false, Result, Ok, Err, refl, sym, subst, ◌∙◌, if◌then◌else◌, arith}
use Rattle.cdg_io.specs.declared.pumping.Pumped.{Pumped}
use Rattle.cdg_io.specs.declared.pumping.PumpStop.{PumpStop}
use Rattle.cdg_io.specs.declared.pumping.PumpStop.TheVariants as pump
use Rattle.cdtext_packs.specs.declared.kinds.TextFault.TheVariants as fault
use Rattle.subcode_author.specs.declared.stops.AuthorStop.{AuthorStop}
use Rattle.subcode_author.specs.declared.stops.AuthorStop.TheVariants as stop
use Rattle.cdg_checkpoint.specs.Resumed.{IsAcceptedBy, acceptance}
use Rattle.cdg_checkpoint.specs.declared.stops.Resumed.{Resumed}
use Rattle.cdg_checkpoint.specs.declared.stops.ResumeStop.{ResumeStop}
use Rattle.cdg_checkpoint.specs.declared.stops.ResumeStop.TheVariants as resume
use Rattle.cdg_press.specs.declared.stops.PressStop.{PressStop}
use Rattle.cdg_press.specs.declared.stops.PressStop.TheVariants as press
use Rattle.stream_stages.specs.declared.played.Played.{Played}
use Rattle.stream_stages.specs.declared.played.PlayStop.{PlayStop}
use Rattle.stream_stages.specs.declared.played.PlayStop.TheVariants as play
use Rattle.cdg_cmd.specs.Answer.{Does}
use Rattle.cdg_cmd.specs.Authors.{Answers, AuthorsWith, StopsAtScript, StopsAtSheet}
use Rattle.cdg_io.specs.Change.{Bytes}
use Rattle.cdg_cmd.specs.Call.{Call}
use Rattle.cdg_cmd.specs.Checkpoints.{ResumesWith}
use Rattle.cdg_cmd.specs.Keeps.{ReadsSecond}
use Rattle.cdg_cmd.specs.Presses.{Presses, PressesWith, RefusesFile, RefusesSheet}
use Rattle.cdg_cmd.specs.Stops.{author_status, play_status, press_status, pump_status, resume_status, thin_status}
use Rattle.cdg_cmd.specs.declared.command.Command.{Command}
use Rattle.cdg_cmd.specs.declared.command.Command.TheVariants.{Convert, Screen, State, Check, Q, Text, Author, Planar, Raw, Scratch, Gen, Trial, Merge, Thin, Press, Save, Resume}
use Rattle.cdg_cmd.specs.declared.status.Status.TheVariants.{Done, Damaged, ReadFault}
use Rattle.cdg_cmd.specs.declared.status.Which.TheVariants.{Second}

whole : (good : Bool) (n : ℕ) → (if good then Done else Damaged n) ≢ ReadFault Second
whole true n e = absurd (cc)
whole false n e = absurd (cc)

played : (answer : Result Played PlayStop) → play_status answer ≢ ReadFault Second
played (Ok done) e = whole (done.bad == 0) done.bad e
played (Err play.ReadFault) e = absurd (cc)
played (Err play.WriteFault) e = absurd (cc)
played (Err (play.Torn block)) e = absurd (cc)
played (Err play.TooLong) e = absurd (cc)
played (Err (play.PastEnd blocks)) e = absurd (cc)
played (Err (play.Text (fault.Missing seq))) e = absurd (cc)
played (Err (play.Text fault.NoSize)) e = absurd (cc)
played (Err (play.Text (fault.Malformed seq byte))) e = absurd (cc)
played (Err (play.Text fault.NoMemory)) e = absurd (cc)

pumped : (answer : Result Pumped PumpStop) → pump_status answer ≢ ReadFault Second
pumped (Ok done) e = absurd (cc)
pumped (Err pump.ReadFault) e = absurd (cc)
pumped (Err pump.WriteFault) e = absurd (cc)
pumped (Err (pump.Torn unit)) e = absurd (cc)
pumped (Err pump.TooLong) e = absurd (cc)

authored : (answer : Result (Unit {0}) AuthorStop) → author_status answer ≢ ReadFault Second
authored (Ok done) e = absurd (cc)
authored (Err (stop.LengthShort need)) e = absurd (cc)
authored (Err (stop.DiscTooLong blocks)) e = absurd (cc)
authored (Err (stop.PastEnd blocks)) e = absurd (cc)
authored (Err (stop.TextTooLong packs)) e = absurd (cc)
authored (Err (stop.LeadInShort need)) e = absurd (cc)
authored (Err (stop.Late picture need free)) e = absurd (cc)
authored (Err stop.WriteFault) e = absurd (cc)
authored (Err stop.NoMemory) e = absurd (cc)

of_author : (lead_in length : ℕ) (call : Call Bytes) → AuthorsWith lead_in length call (ReadFault Second)
    → ReadsSecond (Author lead_in length) call.first
of_author lead_in length call (StopsAtSheet why took nothing) = absurd why
of_author lead_in length call (StopsAtScript sheet reads why took nothing) = (sheet, reads)
of_author lead_in length call (Answers sheet script answer reads_sheet reads_script is put) =
    absurd (authored answer (sym is))

pressed : (answer : Result (Unit {0}) PressStop) → press_status answer ≢ ReadFault Second
pressed (Ok done) e = absurd (cc)
pressed (Err (press.PackTorn pack)) e = absurd (cc)
pressed (Err (press.LengthShort need)) e = absurd (cc)
pressed (Err (press.DiscTooLong blocks)) e = absurd (cc)
pressed (Err (press.Gap track)) e = absurd (cc)
pressed (Err (press.CdgTooLong packs room)) e = absurd (cc)
pressed (Err (press.TextTooLong packs)) e = absurd (cc)
pressed (Err (press.LeadInShort need)) e = absurd (cc)
pressed (Err press.WriteFault) e = absurd (cc)
pressed (Err press.NoMemory) e = absurd (cc)

of_press : (lead_in length : ℕ) (call : Call Bytes) → PressesWith lead_in length call (ReadFault Second)
    → ReadsSecond (Press lead_in length) call.first
of_press lead_in length call (RefusesSheet why took nothing) = absurd why
of_press lead_in length call (RefusesFile sheet reads why took nothing) = (sheet, reads)
of_press lead_in length call (Presses sheet file answer reads_sheet reads_file is put) =
    absurd (pressed answer (sym is))

thinned : (answer : Result Pumped PumpStop) → thin_status answer ≢ ReadFault Second
thinned (Ok done) e = absurd (cc)
thinned (Err pump.ReadFault) e = absurd (cc)
thinned (Err pump.WriteFault) e = absurd (cc)
thinned (Err (pump.Torn unit)) e = absurd (cc)
thinned (Err pump.TooLong) e = absurd (cc)

-- only a fault of the second input has this status
resumed : (answer : Result Resumed ResumeStop) → resume_status answer ≡ ReadFault Second
    → answer ≡ Err resume.SecondFault
resumed (Ok done) e = absurd (whole (done.bad == 0) done.bad e)
resumed (Err resume.SecondFault) e = refl
resumed (Err resume.FirstFault) e = absurd (cc)
resumed (Err resume.WriteFault) e = absurd (cc)
resumed (Err (resume.BadSave byte)) e = absurd (cc)
resumed (Err (resume.BeforeSave blocks)) e = absurd (cc)
resumed (Err (resume.Torn block)) e = absurd (cc)
resumed (Err resume.TooLong) e = absurd (cc)
resumed (Err (resume.PastEnd blocks)) e = absurd (cc)

of_resume : (at : ℕ) (call : Call Bytes) → ResumesWith at call (ReadFault Second)
    → ReadsSecond (Resume at) call.first
of_resume at call d =
    let is : d.answer ≡ Err resume.SecondFault = resumed d.answer (sym d.status_is) in
    let accepted =
    subst (λ (r : Result Resumed ResumeStop). IsAcceptedBy (acceptance r) at d.file) is d.accepted in
    let other : d.answer ≢ Err resume.FirstFault = (λ e. let both = sym is ∙ e in absurd (cc)) in (
      d.file,
      record {
        is_file = accepted.0;
        not_later = accepted.1;
        taken = d.taken other;
        end = d.whole other (omega (arith, accepted.0.size));
      },
    )

-- a command that ends with this status read its second input
pub read_first : (command : Command) (call : Call Bytes) → Does command call (ReadFault Second)
    → ReadsSecond command call.first
read_first (Convert lead_in form) call d = played d.answer (sym d.status_is)
read_first (Screen lead_in form at) call d = played d.answer (sym d.status_is)
read_first (State lead_in form at) call d = played d.answer (sym d.status_is)
read_first (Check lead_in form) call d = played d.answer (sym d.status_is)
read_first (Q lead_in form) call d = played d.answer (sym d.status_is)
read_first (Text lead_in form) call d = played d.answer (sym d.status_is)
read_first (Author lead_in length) call d = of_author lead_in length call d
read_first Planar call d = pumped d.answer (sym d.status_is)
read_first Raw call d = pumped d.answer (sym d.status_is)
read_first (Scratch lead_in seed) call d = pumped d.answer (sym d.status_is)
read_first (Gen seed pictures) call d = d
read_first (Trial seed pictures) call d = d.2
read_first (Merge lead_in) call d = tt
read_first Thin call d = thinned d.answer (sym d.status_is)
read_first (Press lead_in length) call d = of_press lead_in length call d
read_first (Save lead_in) call d = pumped d.answer (sym d.status_is)
read_first (Resume at) call d = of_resume at call d
