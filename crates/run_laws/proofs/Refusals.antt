-- `author` answers with the first reason of a refusal that holds.
use Rattle.std.proofs.Common.{◌≡◌, ◌≢◌, ◌⊎◌, ℕ, List, [], Result, Ok, Err, Some, None, IfSome, refl, sym, ap, subst, ◌∙◌, inl, inr}
use Rattle.std.specs.Io.KnownBytes.{Appends}
use Rattle.cue_sheet.specs.CueSheet.{CueSheet}
use Rattle.picture_script.specs.Script.{Drawing}
use Rattle.picture_script.specs.ScriptGrammar.{read_script}
use Rattle.subcode_author.specs.Authored.{disc_of}
use Rattle.subcode_author.specs.AuthorAnswer.{IsAccepted, IsAuthorStop}
use Rattle.subcode_author.specs.declared.stops.AuthorStop.{AuthorStop}
use Rattle.subcode_author.specs.declared.stops.AuthorStop.TheVariants as stop
use Rattle.cdg_cmd.specs.Authors.{AuthorsWith, IsPutFor, IsScriptStop, IsScriptText, IsSheetStop, IsSheetText, StopsAtSheet, StopsAtScript, Answers}
use Rattle.cdg_io.specs.Change.{Bytes, Change}
use Rattle.run_laws.specs.Refused.{RefusesWith}
use Rattle.cdg_cmd.proofs.WholeInputs.{both}
use Rattle.cdg_cmd.specs.Stops.{author_status}
use Rattle.cdg_cmd.specs.declared.status.Refusal.{Refusal}
use Rattle.cdg_cmd.specs.declared.status.Status.{Status}
use Rattle.cdg_cmd.specs.declared.status.Status.TheVariants.{Done, Damaged, Usage, Refused, Late, ReadFault, WriteFault, NoMemory}
use Rattle.cdg_cmd.proofs.FirstHalf.{put_for_texts}
use Rattle.cdg_cmd.proofs.TextStops.{no_script_stop, no_sheet_stop, one_script_stop, one_sheet_stop, script_status, script_stopped, sheet_status, sheet_stopped}

module _ (lead_in audio : ℕ) (out : Change Bytes) where
  -- memory may be missing
  with_memory : (why status : Status) → (status ≡ NoMemory → Appends out.before out.after [])
      → (status ≢ NoMemory → RefusesWith why out status)
      → RefusesWith why out status
  with_memory why NoMemory memory refuses = (memory refl, inr tt)
  with_memory why Done memory refuses = refuses (λ e. cc)
  with_memory why (Damaged n) memory refuses = refuses (λ e. cc)
  with_memory why Usage memory refuses = refuses (λ e. cc)
  with_memory why (Refused r) memory refuses = refuses (λ e. cc)
  with_memory why (Late picture need free) memory refuses = refuses (λ e. cc)
  with_memory why (ReadFault which) memory refuses = refuses (λ e. cc)
  with_memory why WriteFault memory refuses = refuses (λ e. cc)

  at_sheet : (cue : List ℕ) (left' more more' : Bytes) (r : Refusal) (status : Status)
      → IsSheetStop (Some cue) (Refused r)
      → AuthorsWith lead_in audio (both (Some cue) left' more more' out) status
      → RefusesWith (Refused r) out status
  at_sheet cue left' more more' r status refused (StopsAtSheet why took nothing) =
      elim (sheet_status cue status why) [
        | inl stopped ↦ (nothing, inr stopped)
        | inr (q, same, other) ↦
            (nothing, inl (same ∙ ap (λ (x : Refusal). Refused x) (one_sheet_stop cue q r other refused)))
      ]
  at_sheet cue left' more more' r status refused (StopsAtScript sheet reads why took nothing) =
      absurd (no_sheet_stop cue r sheet reads.1 refused)
  at_sheet cue left' more more' r status refused
      (Answers sheet script answer reads_sheet reads_script is put) =
      absurd (no_sheet_stop cue r sheet reads_sheet.1 refused)

  at_script : (cue text : List ℕ) (left' more' : Bytes) (sheet : CueSheet) (r : Refusal) (status : Status)
      → IsSheetText cue sheet → IsScriptStop (Some text) (Refused r)
      → AuthorsWith lead_in audio (both (Some cue) left' (Some text) more' out) status
      → RefusesWith (Refused r) out status
  at_script cue text left' more' sheet r status is refused (StopsAtSheet why took nothing) =
      (nothing, inr (sheet_stopped cue sheet status is why))
  at_script cue text left' more' sheet r status is refused (StopsAtScript other reads why took nothing) =
      elim (script_status text status why) [
        | inl stopped ↦ (nothing, inr stopped)
        | inr (q, same, found) ↦
            (nothing, inl (same ∙ ap (λ (x : Refusal). Refused x) (one_script_stop text q r found refused)))
      ]
  at_script cue text left' more' sheet r status is refused
      (Answers other script answer reads_sheet reads_script same put) =
      absurd (no_script_stop text r script reads_script.1 refused)

  module _ (sheet : CueSheet) (script : List Drawing) (why : AuthorStop) (some : why ≢ stop.NoMemory)
      (early : why ≢ stop.WriteFault)
      (is : IsAuthorStop sheet script lead_in audio why) where
    module _ (not_both : (w : AuthorStop) → IsAccepted sheet script lead_in audio
        → IsAuthorStop sheet script lead_in audio w
        → (w ≡ stop.NoMemory) ⊎ (w ≡ stop.WriteFault))
        (one : (w : AuthorStop) → IsAuthorStop sheet script lead_in audio w → w ≢ stop.NoMemory
        → w ≡ why) where
      not_accepted : IsAccepted sheet script lead_in audio → ⊥
      not_accepted accepted = elim (not_both why accepted is) [
        | inl memory ↦ some memory
        | inr fault ↦ early fault
      ]

      same_stop : (w : AuthorStop) → IsPutFor (disc_of sheet script lead_in audio) out (Err w)
          → w ≢ stop.NoMemory → w ≢ stop.WriteFault
          → RefusesWith (author_status (Err why)) out (author_status (Err w))
      same_stop w put memory fault =
          (put.nothing fault, inl (ap (λ (x : AuthorStop). author_status (Err x)) (one w put.why memory)))

      of_answer : (answer : Result (Unit {0}) AuthorStop)
          → IsPutFor (disc_of sheet script lead_in audio) out answer
          → RefusesWith (author_status (Err why)) out (author_status answer)
      of_answer (Ok done) put = absurd (not_accepted put.done.0)
      of_answer (Err (stop.LengthShort need)) put = same_stop (stop.LengthShort need) put (λ e. cc) (λ e. cc)
      of_answer (Err (stop.DiscTooLong blocks)) put =
          same_stop (stop.DiscTooLong blocks) put (λ e. cc) (λ e. cc)
      of_answer (Err (stop.PastEnd blocks)) put = same_stop (stop.PastEnd blocks) put (λ e. cc) (λ e. cc)
      of_answer (Err (stop.TextTooLong packs)) put =
          same_stop (stop.TextTooLong packs) put (λ e. cc) (λ e. cc)
      of_answer (Err (stop.LeadInShort need)) put = same_stop (stop.LeadInShort need) put (λ e. cc) (λ e. cc)
      of_answer (Err (stop.Late picture need free)) put =
          same_stop (stop.Late picture need free) put (λ e. cc) (λ e. cc)
      of_answer (Err stop.WriteFault) put = absurd (not_accepted put.why)
      of_answer (Err stop.NoMemory) put = (put.nothing (λ e. cc), inr tt)

    module _ (Pixels : Type 0) (pixels : (text : List ℕ) → read_script text ≡ Ok script → Pixels)
        (not_both : Pixels → (w : AuthorStop) → IsAccepted sheet script lead_in audio
        → IsAuthorStop sheet script lead_in audio w
        → (w ≡ stop.NoMemory) ⊎ (w ≡ stop.WriteFault))
        (one : Pixels → (w : AuthorStop) → IsAuthorStop sheet script lead_in audio w → w ≢ stop.NoMemory
        → w ≡ why) where
      at_disc : (cue text : List ℕ) (left' more' : Bytes) (status : Status) → IsSheetText cue sheet
          → IsScriptText text script
          → AuthorsWith lead_in audio (both (Some cue) left' (Some text) more' out) status
          → RefusesWith (author_status (Err why)) out status
      at_disc cue text left' more' status sheet_is script_is (StopsAtSheet reason took nothing) =
          (nothing, inr (sheet_stopped cue sheet status sheet_is reason))
      at_disc cue text left' more' status sheet_is script_is (StopsAtScript other reads reason took nothing) =
          (nothing, inr (script_stopped text script status script_is reason))
      at_disc cue text left' more' status sheet_is script_is
          (Answers other lines answer reads_sheet reads_script same put) =
          let in_range : Pixels = pixels text script_is.reads in
          let put_same : IsPutFor (disc_of sheet script lead_in audio) out answer =
          put_for_texts sheet script lead_in audio out cue text other lines answer sheet_is script_is
          reads_sheet.1 reads_script.1 put in
          subst (λ (k : Status). RefusesWith (author_status (Err why)) out k) (sym same)
          (of_answer (not_both in_range) (one in_range) answer put_same)

      pub disc_refused : (left left' more more' : Bytes) (status : Status)
          → (status ≡ NoMemory → Appends out.before out.after [])
          → (status ≢ NoMemory → AuthorsWith lead_in audio (both left left' more more' out) status)
          → IfSome left (λ cue. IfSome more (λ text. IsSheetText cue sheet → IsScriptText text script
          → RefusesWith (author_status (Err why)) out status))
      disc_refused None left' more more' status memory authors = tt
      disc_refused (Some cue) left' None more' status memory authors = tt
      disc_refused (Some cue) left' (Some text) more' status memory authors = λ sheet_is script_is.
          with_memory (author_status (Err why)) status memory
          (λ found. at_disc cue text left' more' status sheet_is script_is (authors found))

  pub sheet_refused : (left left' more more' : Bytes) (r : Refusal) (status : Status)
      → (status ≡ NoMemory → Appends out.before out.after [])
      → (status ≢ NoMemory → AuthorsWith lead_in audio (both left left' more more' out) status)
      → IfSome left (λ cue. IsSheetStop (Some cue) (Refused r) → RefusesWith (Refused r) out status)
  sheet_refused None left' more more' r status memory authors = tt
  sheet_refused (Some cue) left' more more' r status memory authors = λ refused.
      with_memory (Refused r) status memory
      (λ found. at_sheet cue left' more more' r status refused (authors found))

  pub script_refused : (left left' more more' : Bytes) (sheet : CueSheet) (r : Refusal) (status : Status)
      → (status ≡ NoMemory → Appends out.before out.after [])
      → (status ≢ NoMemory → AuthorsWith lead_in audio (both left left' more more' out) status)
      → IfSome left (λ cue. IfSome more (λ text.
      IsSheetText cue sheet → IsScriptStop (Some text) (Refused r) → RefusesWith (Refused r) out status))
  script_refused None left' more more' sheet r status memory authors = tt
  script_refused (Some cue) left' None more' sheet r status memory authors = tt
  script_refused (Some cue) left' (Some text) more' sheet r status memory authors = λ is refused.
      with_memory (Refused r) status memory
      (λ found. at_script cue text left' more' sheet r status is refused (authors found))
