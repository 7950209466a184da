-- The listings of streams, from the answers of a player.
use Rattle.std.proofs.Common.{◌≡◌, ◌≢◌, ◌≤◌, ◌*◌, ℕ, Bool, true, List, [], ◌∷◌, length, Result, Ok, Err, Some, None, IfSome, sym, subst, inl, inr, arith, if◌then◌else◌, ◌==◌}
use Rattle.raw_subcode.specs.declared.form.Form.{Form}
use Rattle.raw_subcode.specs.declared.form.Form.TheVariants.{Raw}
use Rattle.round_trips.specs.Answers.{PutsTexts}
use Rattle.q_channel.specs.QList.{IsQListed}
use Rattle.cdtext_packs.specs.declared.kinds.TextFault.{TextFault}
use Rattle.cue_sheet.specs.CueSheet.{CueSheet}
use Rattle.picture_script.specs.Script.{Drawing}
use Rattle.toc_model.specs.Places.{program_blocks}
use Rattle.stream_writer.specs.SheetTexts.{sheet_texts}
use Rattle.cdtext_packs.specs.Texts.{has_no_text}
use Rattle.cdtext_packs.specs.TextLines.{offers_line}
use Rattle.round_trips.specs.Damage.{HasHurtSlots, count_hurt, count_whole}
use Rattle.round_trips.specs.SheetLines.{HasText, HasTextPacks, sheet_lines}
use Rattle.subcode_author.specs.Authored.{IsAuthored, text_packs, disc_of}
use Rattle.raw_subcode.specs.Sizes.{most_units}
use Rattle.stream_stages.specs.Calls.{IsAnsweredBy, in_turn}
use Rattle.stream_stages.specs.Convert.{Restores}
use Rattle.stream_stages.specs.TextListing.{IsListedBy, IsWholeInput, ListsTexts, packs_in}
use Rattle.stream_stages.specs.declared.played.Played.{Played}
use Rattle.stream_stages.specs.declared.played.PlayStop.{PlayStop}
use Rattle.stream_stages.specs.declared.played.PlayStop.TheVariants as play
use Rattle.cdg_cmd.specs.Answer.{Does, GivesBack, GivesIfFound}
use Rattle.cdg_io.specs.Change.{Bytes, Change, from_to}
use Rattle.cdg_io.specs.Streams.{Streams}
use Rattle.cdg_io.proofs.Frames.{passing}
use Rattle.cdg_cmd.specs.LeadInTexts.{AreLinesOf}
use Rattle.cdg_cmd.specs.Spelling.{IsAllowed, Spells}
use Rattle.cdg_cmd.specs.Stops.{play_status}
use Rattle.cdg_cmd.specs.declared.command.Command.{Command}
use Rattle.cdg_cmd.specs.declared.command.Command.TheVariants.{Q, Text}
use Rattle.cdg_cmd.specs.declared.status.Status.{Status}
use Rattle.cdg_cmd.specs.declared.status.Status.TheVariants.{Done, Damaged, NoMemory}
use Rattle.cdg_cmd.proofs.SecondHalf.{given_back}
use Rattle.cdg_cmd.proofs.WholeInputs.{both, unless_memory}

pub spells_allowed : (command : Command) (words : List (List ℕ)) → Spells command words → IsAllowed command
spells_allowed command [] s = absurd s
spells_allowed command (name ∷ options) s = s.1

-- an authored stream has no more blocks than a player reads
pub authored_size : (sheet : CueSheet) (script : List Drawing) (lead_in audio : ℕ) (bytes : List ℕ)
    (packs : List (List ℕ)) → lead_in ≤ 450000 → program_blocks sheet audio ≤ 449999
    → IsAuthored (disc_of sheet script lead_in audio) bytes packs → length bytes ≤ most_units * 96
authored_size sheet script lead_in audio bytes packs short few authored =
    omega (arith, authored.framing.size, short, few)

-- a player that wrote texts, as a status
texts_back : (answer : Result Played PlayStop) (out : Change Bytes) (t : List ℕ)
    → PutsTexts answer out.before out.after t
    → GivesIfFound t out (play_status answer)
texts_back (Ok played) out t puts =
    subst (λ (n : ℕ). GivesIfFound t out (if n == 0 then Done else Damaged n)) (sym puts.0) puts.1
texts_back (Err play.ReadFault) out t puts = tt
texts_back (Err play.WriteFault) out t puts = tt
texts_back (Err (play.Torn block)) out t puts = absurd puts
texts_back (Err play.TooLong) out t puts = absurd puts
texts_back (Err (play.PastEnd blocks)) out t puts = absurd puts
texts_back (Err (play.Text why)) out t puts =
    subst (λ (w : TextFault). GivesIfFound t out (play_status (Err (play.Text w)))) (sym puts) tt

module _ (lead_in : ℕ) (left' more more' : Bytes) (out : Change Bytes) (status : Status) (t : List ℕ)
    (A : List ℕ → Type 0) where
  frames_of : (all : List ℕ) → Does (Q lead_in Raw) (both (Some all) left' more more' out) status
      → ((answer : Result Played PlayStop) (taken : List ℕ)
      → Streams (in_turn (IsQListed Raw) Raw lead_in) (passing (from_to (Some all) left') out) answer taken
      → IsAnsweredBy answer 96 (length all) → Restores answer out.before out.after t) → GivesBack t out status
  frames_of all l restores =
      subst (λ (s : Status). GivesBack t out s) (sym l.status_is)
      (given_back l.answer out t (restores l.answer l.taken l.did l.exactly.1))

  -- the frames of streams of some kind
  pub frames_given : (left : Bytes) → Does (Q lead_in Raw) (both left left' more more' out) status
      → ((all : List ℕ) → A all → (answer : Result Played PlayStop) (taken : List ℕ)
      → Streams (in_turn (IsQListed Raw) Raw lead_in) (passing (from_to (Some all) left') out) answer taken
      → IsAnsweredBy answer 96 (length all) → Restores answer out.before out.after t)
      → IfSome left (λ all. A all → GivesBack t out status)
  frames_given None lists restores = tt
  frames_given (Some all) lists restores = λ is. frames_of all lists (restores all is)

  texts_of : (form : Form) (all : List ℕ)
      → Does (Text lead_in form) (both (Some all) left' more more' out) status
      → ((answer : Result Played PlayStop) (taken : List ℕ)
      → ListsTexts form lead_in (passing (from_to (Some all) left') out) answer taken
      → IsListedBy answer form lead_in all
      → PutsTexts answer out.before out.after t) → GivesIfFound t out status
  texts_of form all l puts =
      subst (λ (s : Status). GivesIfFound t out s) (sym l.status_is)
      (texts_back l.answer out t (puts l.answer l.taken l.did l.exactly.1))

  -- the CD-TEXT of streams of some kind
  pub strings_given : (form : Form) (left : Bytes)
      → (status ≢ NoMemory → Does (Text lead_in form) (both left left' more more' out) status)
      → ((all : List ℕ) → A all → (answer : Result Played PlayStop) (taken : List ℕ)
      → ListsTexts form lead_in (passing (from_to (Some all) left') out) answer taken
      → IsListedBy answer form lead_in all
      → PutsTexts answer out.before out.after t) → IfSome left (λ all. A all → GivesIfFound t out status)
  strings_given form None lists puts = tt
  strings_given form (Some all) lists puts =
      λ is. unless_memory _ status (λ found. texts_of form all (lists found) (puts all is))

-- the lines of a sheet that has strings or none
pub lines_given : (sheet : CueSheet) (script : List Drawing) (form : Form) (lead_in audio : ℕ)
    (stream all lines : List ℕ) (answer : Result Played PlayStop) (out : Change Bytes)
    → ((whole : List Bool) → HasTextPacks sheet → HasText sheet
    → HasHurtSlots (text_packs sheet) whole (packs_in Raw lead_in stream) (packs_in form lead_in all)
    → IsWholeInput form all
    → PutsTexts answer out.before out.after (sheet_lines sheet (count_whole whole) (count_hurt whole)))
    → (has_no_text (sheet_texts sheet) ≡ true → packs_in form lead_in all ≡ packs_in Raw lead_in stream
    → IsWholeInput form all
    → PutsTexts answer out.before out.after (offers_line 0 (4 * lead_in) 0))
    → AreLinesOf (disc_of sheet script lead_in audio) form stream all lines
    → PutsTexts answer out.before out.after lines
lines_given sheet script form lead_in audio stream all lines answer out strings none (inl has) =
    subst (λ (t : List ℕ). PutsTexts answer out.before out.after t) (sym has.lines_are)
    (strings has.whole has.packs has.some has.slots has.input)
lines_given sheet script form lead_in audio stream all lines answer out strings none (inr has) =
    subst (λ (t : List ℕ). PutsTexts answer out.before out.after t) (sym has.lines_are)
    (none has.none has.copy.slots has.copy.input)
