-- What `author` writes if only a picture can be refused.
use Rattle.std.proofs.Common.{◌≡◌, ◌≢◌, ℕ, List, Result, Ok, Err, Some, None, IfSome, sym, subst, arith}
use Rattle.cue_sheet.specs.CueSheet.{CueSheet}
use Rattle.cue_sheet.specs.Grammar.{read_cue}
use Rattle.picture_script.specs.Script.{Drawing}
use Rattle.picture_script.specs.ScriptGrammar.{read_script}
use Rattle.pack_schedule.specs.Survey.{IsPastEnd}
use Rattle.subcode_author.specs.Authored.{disc_of}
use Rattle.subcode_author.specs.AuthorAnswer.{HasRoom, HoldsPictures}
use Rattle.subcode_author.specs.declared.stops.AuthorStop.{AuthorStop}
use Rattle.subcode_author.specs.declared.stops.AuthorStop.TheVariants as stop
use Rattle.cdg_cmd.specs.Authors.{AuthorsWith, IsPutFor, IsScriptText, IsSheetText, IsStopped, StopsAtSheet, StopsAtScript, Answers}
use Rattle.cdg_io.specs.Change.{Bytes, Change}
use Rattle.cdg_cmd.specs.Headline.{HavePlace, WritesOrIsLate}
use Rattle.cdg_cmd.specs.Stops.{author_status}
use Rattle.cdg_cmd.specs.declared.status.Status.{Status}
use Rattle.cdg_cmd.specs.declared.status.Status.TheVariants.{Done, Damaged, Usage, Refused, Late, ReadFault, WriteFault, NoMemory}
use Rattle.cdg_cmd.proofs.TextStops.{script_stopped, sheet_stopped}
use Rattle.cdg_cmd.proofs.WholeInputs.{both}

same_answer : {A E : Type 0} (r : Result A E) (a b : A) → r ≡ Ok a → r ≡ Ok b → a ≡ b
same_answer r a b first second = (cc)

module _ (sheet : CueSheet) (script : List Drawing) (lead_in audio : ℕ) (out : Change Bytes) where
  -- the output for the sheet and the script that the two texts mean
  pub put_for_texts : (cue text : List ℕ) (other : CueSheet) (lines : List Drawing)
      (answer : Result (Unit {0}) AuthorStop) → IsSheetText cue sheet → IsScriptText text script
      → IsSheetText cue other → IsScriptText text lines
      → IsPutFor (disc_of other lines lead_in audio) out answer
      → IsPutFor (disc_of sheet script lead_in audio) out answer
  put_for_texts cue text other lines answer sheet_is script_is other_is lines_are put =
      subst (λ (s : CueSheet). IsPutFor (disc_of s script lead_in audio) out answer)
      (same_answer (read_cue cue) other sheet other_is.reads sheet_is.reads)
      (subst (λ (l : List Drawing). IsPutFor (disc_of other l lead_in audio) out answer)
      (same_answer (read_script text) lines script lines_are.reads script_is.reads) put)

  of_stopped : (status : Status) → IsStopped status
      → WritesOrIsLate (disc_of sheet script lead_in audio) out status
  of_stopped Done stopped = absurd stopped
  of_stopped (Damaged n) stopped = absurd stopped
  of_stopped Usage stopped = absurd stopped
  of_stopped (Refused why) stopped = absurd stopped
  of_stopped (Late picture need free) stopped = absurd stopped
  of_stopped (ReadFault which) stopped = tt
  of_stopped WriteFault stopped = absurd stopped
  of_stopped NoMemory stopped = tt

  of_answer : (answer : Result (Unit {0}) AuthorStop)
      → IsPutFor (disc_of sheet script lead_in audio) out answer → HoldsPictures sheet script audio
      → HasRoom sheet lead_in
      → WritesOrIsLate (disc_of sheet script lead_in audio) out (author_status answer)
  of_answer (Ok done) put disc room = (put.done.0.ready, put.done.1)
  of_answer (Err (stop.LengthShort need)) put disc room =
      let (is, short) = put.why in
      absurd (omega (arith, short, disc.0.0))
  of_answer (Err (stop.DiscTooLong blocks)) put disc room =
      let (enough, is, long) = put.why in
      absurd (omega (arith, is, long, disc.0.1))
  of_answer (Err (stop.PastEnd blocks)) put disc room =
      let (layout, is, past) = put.why in
      absurd (disc.1 (subst (λ (b : ℕ). IsPastEnd script b) is past))
  of_answer (Err (stop.TextTooLong packs)) put disc room =
      let (holds, (some, many, is)) = put.why in
      absurd (omega (arith, many, is, (room some).0))
  of_answer (Err (stop.LeadInShort need)) put disc room =
      let (holds, (some, few, short, is)) = put.why in
      absurd (omega (arith, short, is, (room some).1))
  of_answer (Err (stop.Late picture need free)) put disc room =
      let (holds, fits, late) = put.why in
      (late, put.nothing (λ e. cc))
  of_answer (Err stop.WriteFault) put disc room = tt
  of_answer (Err stop.NoMemory) put disc room = tt

  of_texts : (cue more : List ℕ) (left' more' : Bytes) (status : Status)
      → AuthorsWith lead_in audio (both (Some cue) left' (Some more) more' out) status
      → IsSheetText cue sheet → IsScriptText more script → HavePlace (disc_of sheet script lead_in audio)
      → WritesOrIsLate (disc_of sheet script lead_in audio) out status
  of_texts cue more left' more' status (StopsAtSheet why took nothing) sheet_is script_is place =
      of_stopped status (sheet_stopped cue sheet status sheet_is why)
  of_texts cue more left' more' status (StopsAtScript other reads why took nothing) sheet_is script_is place =
      of_stopped status (script_stopped more script status script_is why)
  of_texts cue more left' more' status (Answers other lines answer reads_sheet reads_script is put) sheet_is
      script_is place =
      let same : IsPutFor (disc_of sheet script lead_in audio) out answer =
      put_for_texts cue more other lines answer sheet_is script_is reads_sheet.1 reads_script.1 put in
      subst (λ (k : Status). WritesOrIsLate (disc_of sheet script lead_in audio) out k) (sym is)
      (of_answer answer same place.pictures place.room)

  -- of any status, also of `NoMemory`
  pub first_half : (left left' more more' : Bytes) (status : Status)
      → HavePlace (disc_of sheet script lead_in audio)
      → (status ≢ NoMemory → AuthorsWith lead_in audio (both left left' more more' out) status)
      → IfSome left (λ cue. IfSome more (λ text. IsSheetText cue sheet → IsScriptText text script
      → WritesOrIsLate (disc_of sheet script lead_in audio) out status))
  first_half None left' more more' status place authors = tt
  first_half (Some cue) left' None more' status place authors = tt
  first_half (Some cue) left' (Some text) more' NoMemory place authors = λ s t. tt
  first_half (Some cue) left' (Some text) more' Done place authors =
      λ s t. of_texts cue text left' more' Done (authors (λ e. cc)) s t place
  first_half (Some cue) left' (Some text) more' (Damaged n) place authors =
      λ s t. of_texts cue text left' more' (Damaged n) (authors (λ e. cc)) s t place
  first_half (Some cue) left' (Some text) more' Usage place authors =
      λ s t. of_texts cue text left' more' Usage (authors (λ e. cc)) s t place
  first_half (Some cue) left' (Some text) more' (Refused why) place authors =
      λ s t. of_texts cue text left' more' (Refused why) (authors (λ e. cc)) s t place
  first_half (Some cue) left' (Some text) more' (Late picture need free) place authors =
      λ s t. of_texts cue text left' more' (Late picture need free) (authors (λ e. cc)) s t place
  first_half (Some cue) left' (Some text) more' (ReadFault which) place authors = λ s t. tt
  first_half (Some cue) left' (Some text) more' WriteFault place authors = λ s t. tt
