-- The answers of a player whose listing is known.
use Rattle.std.proofs.Common.{◌≡◌, ℕ, ◌*◌, ◌≤◌, List, length, Some, Result, Ok, Err, refl, subst, arith}
use Rattle.std.specs.Io.KnownBytes.{Appends}
use Rattle.raw_subcode.specs.declared.form.Form.{Form}
use Rattle.raw_subcode.specs.declared.form.Form.TheVariants.{Raw}
use Rattle.cue_sheet.specs.CueSheet.{CueSheet}
use Rattle.picture_script.specs.Script.{Drawing}
use Rattle.q_channel.specs.QList.{IsQListed}
use Rattle.cdtext_packs.specs.Texts.{Texts}
use Rattle.cdtext_packs.specs.declared.kinds.TextFault.{TextFault}
use Rattle.cdtext_packs.specs.declared.kinds.TextFault.TheVariants.{Missing, NoSize, Malformed, NoMemory}
use Rattle.subcode_author.specs.Authored.{IsAuthored, disc_of}
use Rattle.raw_subcode.specs.Sizes.{most_units}
use Rattle.cdg_io.specs.Change.{Bytes, Change, from_to}
use Rattle.cdg_io.specs.Streams.{Streams}
use Rattle.cdg_io.proofs.Frames.{passing}
use Rattle.stream_stages.specs.Calls.{IsAnsweredBy, in_turn}
use Rattle.stream_stages.specs.Convert.{Restores}
use Rattle.stream_stages.specs.TextListing.{texts_of_lead_in, IsTextListed, ListsTexts, IsListedBy, IsWholeInput}
use Rattle.stream_stages.specs.declared.played.Played.{Played}
use Rattle.stream_stages.specs.declared.played.PlayStop.{PlayStop}
use Rattle.stream_stages.specs.declared.played.PlayStop.TheVariants.{ReadFault, WriteFault, Torn, TooLong, PastEnd, Text}
use Rattle.stream_stages.proofs.Restoring.{taken_all}
use Rattle.round_trips.specs.Answers.{PutsTexts}

-- an authored stream has whole blocks
pub whole_blocks : (sheet : CueSheet) (script : List Drawing) (lead_in audio : ℕ) (bytes : List ℕ)
    (packs : List (List ℕ)) → IsAuthored (disc_of sheet script lead_in audio) bytes packs
    → length bytes ≤ most_units * 96 → IsWholeInput Raw bytes
whole_blocks sheet script lead_in audio bytes packs authored few = (few, omega (arith, authored.framing.size))

pub lists_frames : (bytes expected : List ℕ) (given : ℕ) (left : Bytes) (out : Change Bytes)
    (result : Result Played PlayStop) (taken : List ℕ)
    → IsWholeInput Raw bytes
    → ((text : List ℕ) (bad : ℕ) → IsQListed Raw bytes text bad → (text ≡ expected) × (bad ≡ 0))
    → Streams (in_turn (IsQListed Raw) Raw given) (passing (from_to (Some bytes) left) out) result taken
    → IsAnsweredBy result 96 (length bytes)
    → Restores result out.before out.after expected
lists_frames bytes expected given left out (Ok played) taken whole lines lists answer =
    let (end, (text, is_played, put)) = lists.done in
    let same : taken ≡ bytes = taken_all bytes left taken lists.taken_from end in
    let is =
    lines text played.bad (subst (λ (b : List ℕ). IsQListed Raw b text played.bad) same is_played.written) in
    (is.1, subst (Appends out.before out.after) is.0 put)
lists_frames bytes expected given left out (Err ReadFault) taken whole lines lists answer = tt
lists_frames bytes expected given left out (Err WriteFault) taken whole lines lists answer = tt
lists_frames bytes expected given left out (Err (Torn block)) taken whole lines lists answer =
    absurd (answer.1 whole.1)
lists_frames bytes expected given left out (Err TooLong) taken whole lines lists answer =
    absurd (omega (arith, answer, whole.0))
lists_frames bytes expected given left out (Err (PastEnd ended)) taken whole lines lists answer =
    absurd answer
lists_frames bytes expected given left out (Err (Text fault)) taken whole lines lists answer = absurd answer

not_both : (texts : Texts) (fault : TextFault) (read : Result Texts TextFault) → read ≡ Ok texts
    → read ≡ Err fault
    → ⊥
not_both texts fault read one other = cc

pub lists_texts : (form : Form) (bytes expected : List ℕ) (lead_in : ℕ) (texts : Texts) (left : Bytes)
    (out : Change Bytes) (result : Result Played PlayStop) (taken : List ℕ)
    → IsWholeInput form bytes → texts_of_lead_in form lead_in bytes ≡ Ok texts
    → ((text : List ℕ) (bad : ℕ) → IsTextListed form lead_in bytes text bad → text ≡ expected)
    → ListsTexts form lead_in (passing (from_to (Some bytes) left) out) result taken
    → IsListedBy result form lead_in bytes
    → PutsTexts result out.before out.after expected
lists_texts form bytes expected lead_in texts left out (Ok played) taken whole read lines lists answer =
    let (end, (text, is_played, put)) = lists.plays.done in
    let same : taken ≡ bytes = taken_all bytes left taken lists.plays.taken_from end in (
      is_played.written.none_bad,
      subst (Appends out.before out.after) (lines text played.bad
          (subst (λ (b : List ℕ). IsTextListed form lead_in b text played.bad) same is_played.written)) put,
    )
lists_texts form bytes expected lead_in texts left out (Err ReadFault) taken whole read lines lists answer =
    tt
lists_texts form bytes expected lead_in texts left out (Err WriteFault) taken whole read lines lists answer =
    tt
lists_texts form bytes expected lead_in texts left out (Err (Torn block)) taken whole read lines lists
    answer =
    absurd (answer.1 whole.1)
lists_texts form bytes expected lead_in texts left out (Err TooLong) taken whole read lines lists answer =
    absurd (omega (arith, answer, whole.0))
lists_texts form bytes expected lead_in texts left out (Err (PastEnd ended)) taken whole read lines lists
    answer =
    absurd answer
lists_texts form bytes expected lead_in texts left out (Err (Text NoMemory)) taken whole read lines lists
    answer =
    refl
lists_texts form bytes expected lead_in texts left out (Err (Text (Missing seq))) taken whole read lines lists
    answer =
    absurd (not_both texts (Missing seq) (texts_of_lead_in form lead_in bytes) read answer.1)
lists_texts form bytes expected lead_in texts left out (Err (Text NoSize)) taken whole read lines lists
    answer =
    absurd (not_both texts NoSize (texts_of_lead_in form lead_in bytes) read answer.1)
lists_texts form bytes expected lead_in texts left out (Err (Text (Malformed seq byte))) taken whole read
    lines lists answer =
    absurd (not_both texts (Malformed seq byte) (texts_of_lead_in form lead_in bytes) read answer.1)
