-- A picture that is reported as late cannot be ready.
use Rattle.std.proofs.Common.{◌≡◌, ℕ, List, Result, Ok, Err, Some, None, IfSome, sym, subst}
use Rattle.picture_script.specs.Script.{Drawing}
use Rattle.picture_script.specs.ScriptGrammar.{read_script}
use Rattle.pack_schedule.specs.Schedule.{IsLate}
use Rattle.pack_schedule.specs.Brings.{CannotBeReady}
use Rattle.cue_sheet.specs.CueSheet.{CueSheet}
use Rattle.subcode_author.specs.Authored.{disc_of}
use Rattle.subcode_author.specs.declared.stops.AuthorStop.{AuthorStop}
use Rattle.subcode_author.specs.declared.stops.AuthorStop.TheVariants as stop
use Rattle.cdg_io.specs.Change.{Bytes, Change}
use Rattle.cdg_cmd.proofs.WholeInputs.{both}
use Rattle.cdg_cmd.specs.Authors.{AuthorsWith, IsPutFor, IsScriptStop, IsScriptText, IsSheetStop, StopsAtSheet, StopsAtScript, Answers}
use Rattle.cdg_cmd.specs.Stops.{author_status}
use Rattle.cdg_cmd.specs.declared.status.Status.{Status}
use Rattle.cdg_cmd.specs.declared.status.Status.TheVariants.{Done, Damaged, Usage, Refused, Late, ReadFault, WriteFault, NoMemory}

same_script : (text : List ℕ) (one other : List Drawing) → read_script text ≡ Ok one
    → read_script text ≡ Ok other
    → one ≡ other
same_script text one other first second = (cc)

same_late : (script : List Drawing) (k n f picture need free : ℕ) → Late k n f ≡ Late picture need free
    → IsLate script k n f
    → IsLate script picture need free
same_late script k n f picture need free same late =
    let first : k ≡ picture = (cc) in
    let second : n ≡ need = (cc) in
    let third : f ≡ free = (cc) in
    subst (λ (m : ℕ). IsLate script picture need m) third
    (subst (λ (m : ℕ). IsLate script picture m f) second (subst (λ (m : ℕ). IsLate script m n f) first late))

-- an input that stops `author` is not reported as a late picture
no_sheet_late : (left : Bytes) (k n f : ℕ) → IsSheetStop left (Late k n f) → ⊥
no_sheet_late left k n f why = why

no_script_late : (more : Bytes) (k n f : ℕ) → IsScriptStop more (Late k n f) → ⊥
no_script_late more k n f why = why

module _ (lead_in audio : ℕ) (out : Change Bytes) where
  -- the answer reports the first late picture of the script
  late_of : (sheet : CueSheet) (script : List Drawing) (picture need free : ℕ)
      (answer : Result (Unit {0}) AuthorStop) → IsPutFor (disc_of sheet script lead_in audio) out answer
      → author_status answer ≡ Late picture need free → IsLate script picture need free
  late_of sheet script picture need free (Err (stop.Late k n f)) put reported =
      same_late script k n f picture need free reported put.why.2
  late_of sheet script picture need free (Ok done) put reported = absurd (cc)
  late_of sheet script picture need free (Err (stop.LengthShort m)) put reported = absurd (cc)
  late_of sheet script picture need free (Err (stop.DiscTooLong m)) put reported = absurd (cc)
  late_of sheet script picture need free (Err (stop.PastEnd m)) put reported = absurd (cc)
  late_of sheet script picture need free (Err (stop.TextTooLong m)) put reported = absurd (cc)
  late_of sheet script picture need free (Err (stop.LeadInShort m)) put reported = absurd (cc)
  late_of sheet script picture need free (Err stop.WriteFault) put reported = absurd (cc)
  late_of sheet script picture need free (Err stop.NoMemory) put reported = absurd (cc)

  module _ (script : List Drawing) where
    same_text : (text : List ℕ) (lines : List Drawing) (k n f : ℕ) → IsScriptText text lines
        → IsScriptText text script → IsLate lines k n f
        → IsLate script k n f
    same_text text lines k n f one other late =
        subst (λ (l : List Drawing). IsLate l k n f) (same_script text lines script one.reads other.reads)
        late

    of_late : (text : List ℕ) (left left' more' : Bytes) (k n f : ℕ)
        → AuthorsWith lead_in audio (both left left' (Some text) more' out) (Late k n f)
        → IsScriptText text script
        → IsLate script k n f
    of_late text left left' more' k n f (StopsAtSheet why took nothing) is =
        absurd (no_sheet_late left k n f why)
    of_late text left left' more' k n f (StopsAtScript sheet reads why took nothing) is =
        absurd (no_script_late (Some text) k n f why)
    of_late text left left' more' k n f (Answers sheet lines answer reads_sheet reads_script same put) is =
        same_text text lines k n f reads_script.1 is (late_of sheet lines k n f answer put (sym same))

    of_status : (text : List ℕ) (left left' more' : Bytes) (picture need free : ℕ) (status : Status)
        → status ≡ Late picture need free
        → AuthorsWith lead_in audio (both left left' (Some text) more' out) status
        → IsScriptText text script → IsLate script picture need free
    of_status text left left' more' picture need free (Late k n f) reported authors is =
        same_late script k n f picture need free reported (of_late text left left' more' k n f authors is)
    of_status text left left' more' picture need free Done reported authors is = absurd (cc)
    of_status text left left' more' picture need free (Damaged n) reported authors is = absurd (cc)
    of_status text left left' more' picture need free Usage reported authors is = absurd (cc)
    of_status text left left' more' picture need free (Refused why) reported authors is = absurd (cc)
    of_status text left left' more' picture need free (ReadFault which) reported authors is = absurd (cc)
    of_status text left left' more' picture need free WriteFault reported authors is = absurd (cc)
    of_status text left left' more' picture need free NoMemory reported authors is = absurd (cc)

    pub late_cannot : (picture need free : ℕ) → ((text : List ℕ) → read_script text ≡ Ok script
        → IsLate script picture need free → CannotBeReady script picture need free)
        → (left left' more more' : Bytes) (status : Status) → status ≡ Late picture need free
        → AuthorsWith lead_in audio (both left left' more more' out) status
        → IfSome more (λ text. IsScriptText text script → CannotBeReady script picture need free)
    late_cannot picture need free law left left' None more' status reported authors = tt
    late_cannot picture need free law left left' (Some text) more' status reported authors =
        λ is. law text is.reads (of_status text left left' more' picture need free status reported authors is)
