-- Streams with at most two wrong symbols in each word.
use Rattle.std.proofs.Common.{◌≡◌, ◌≢◌, ◌≤◌, ℕ, ◌-◌, ◌*◌, List, ◌++◌, length, map, replicate, Result, Ok, Err, Some, None, IfSome, ◌==◌, if◌then◌else◌, sym, ap, subst, ◌∙◌, arith}
use Rattle.std.proofs.lemmas.List.{append-nil}
use Rattle.std.specs.List.{concat}
use Rattle.raw_subcode.specs.Channels.{program_symbols, unit_size}
use Rattle.raw_subcode.specs.declared.form.Form.{Form}
use Rattle.raw_subcode.specs.declared.form.Form.TheVariants.{Raw, Sector, Cooked}
use Rattle.rw_interleave.specs.Interleave.{whole_packs}
use Rattle.cue_sheet.specs.CueSheet.{CueSheet}
use Rattle.picture_script.specs.Script.{Drawing}
use Rattle.pack_schedule.specs.Shown.{AreColoursInRange, AreTimesInOrder}
use Rattle.rw_interleave.specs.Stream.{all_packs, bad_count}
use Rattle.rw_interleave.specs.Texts.{cdg_bytes}
use Rattle.toc_model.specs.Places.{program_blocks}
use Rattle.subcode_author.specs.Authored.{IsAuthored, disc_of}
use Rattle.stream_stages.specs.Convert.{IsConverted, IsDamagedStream, Restores}
use Rattle.round_trips.specs.Pictured.{GivesPicture, IsHeldAt, IsScheduledStream}
use Rattle.stream_stages.specs.declared.played.Played.{Played}
use Rattle.stream_stages.specs.declared.played.PlayStop.{PlayStop}
use Rattle.stream_stages.specs.declared.played.PlayStop.TheVariants as play
use Rattle.stream_stages.proofs.Restoring.{Recovers, found_packs, restores}
use Rattle.cdg_cmd.specs.Answer.{Does, GivesBack}
use Rattle.cdg_io.specs.Change.{Bytes, Change, from_to}
use Rattle.cdg_io.proofs.Frames.{passing}
use Rattle.cdg_screen.specs.Texts.{pixmap}
use Rattle.stream_stages.specs.Screen.{IsShownBy, Shows, moment}
use Rattle.cdg_cmd.specs.Headline.{IsDamagedCopy, PutsPicture, written_packs}
use Rattle.cdg_cmd.specs.Stops.{play_status}
use Rattle.cdg_cmd.specs.declared.command.Command.TheVariants.{Convert, Screen}
use Rattle.cdg_cmd.specs.declared.status.Status.{Status}
use Rattle.cdg_cmd.specs.declared.status.Status.TheVariants.{Done, Damaged, NoMemory}
use Rattle.cdg_cmd.proofs.WholeInputs.{both, unless_memory}

abbrev pub GivesPacks : Type 0
GivesPacks = (form : Form) (lead_in blocks : ℕ) (packs : List (List ℕ)) (bytes text : List ℕ) (bad : ℕ)
    → IsDamagedStream form lead_in blocks packs bytes
    → IsConverted form lead_in bytes text bad → text ≡ concat (all_packs form blocks packs)

abbrev pub GivesNoneBad : Type 0
GivesNoneBad = (form : Form) (lead_in blocks : ℕ) (packs : List (List ℕ)) (bytes text : List ℕ) (bad : ℕ)
    → IsDamagedStream form lead_in blocks packs bytes
    → IsConverted form lead_in bytes text bad → bad ≡ 0

-- a call that shows the screen at a time of a picture gives this picture
abbrev pub GivesPictures : Type 0
GivesPictures = (form : Form) (lead_in time : ℕ) (all : List ℕ) (left : Bytes) (out : Change Bytes)
    (answer : Result Played PlayStop) (taken : List ℕ) (script : List Drawing) (k : ℕ)
    → IsScheduledStream form lead_in script all → IsHeldAt script k time
    → Shows pixmap (moment form lead_in time) (passing (from_to (Some all) left) out) answer taken
    → IsShownBy answer lead_in time (unit_size form) (length all)
    → GivesPicture script k answer out.before out.after

-- the packs of a damaged stream are its text, and none is bad
module _ (law : Recovers)
    (written : (packs : List (List ℕ)) → cdg_bytes (map (λ pack. Some pack) packs) ≡ concat packs)
    (none : (packs : List (List ℕ)) → bad_count (map (λ pack. Some pack) packs) ≡ 0) where
  pub gives_packs : GivesPacks
  gives_packs form lead_in blocks packs bytes text bad stream converted =
      converted.text_is
      ∙ ap cdg_bytes (found_packs form lead_in blocks packs bytes text bad law stream converted)
      ∙ written (all_packs form blocks packs)

  pub gives_none_bad : GivesNoneBad
  gives_none_bad form lead_in blocks packs bytes text bad stream converted =
      converted.bad_is
      ∙ ap bad_count (found_packs form lead_in blocks packs bytes text bad law stream converted)
      ∙ none (all_packs form blocks packs)

-- a player that restored all packs, as a status
pub given_back : (answer : Result Played PlayStop) (out : Change Bytes) (text : List ℕ)
    → Restores answer out.before out.after text
    → GivesBack text out (play_status answer)
given_back (Ok played) out text r =
    subst (λ (n : ℕ). GivesBack text out (if n == 0 then Done else Damaged n)) (sym r.0) r.1
given_back (Err play.ReadFault) out text r = tt
given_back (Err play.WriteFault) out text r = tt
given_back (Err (play.Torn block)) out text r = absurd r
given_back (Err play.TooLong) out text r = absurd r
given_back (Err (play.PastEnd blocks)) out text r = absurd r
given_back (Err (play.Text why)) out text r = absurd r

-- a player that showed a picture, as a status
picture_put : (script : List Drawing) (k : ℕ) (answer : Result Played PlayStop) (out : Change Bytes)
    → GivesPicture script k answer out.before out.after
    → PutsPicture script k out (play_status answer)
picture_put script k (Ok played) out gives =
    subst (λ (n : ℕ). PutsPicture script k out (if n == 0 then Done else Damaged n)) (sym gives.0) gives.1
picture_put script k (Err play.ReadFault) out gives = tt
picture_put script k (Err play.WriteFault) out gives = tt
picture_put script k (Err (play.Torn block)) out gives = absurd gives
picture_put script k (Err play.TooLong) out gives = absurd gives
picture_put script k (Err (play.PastEnd blocks)) out gives = absurd gives
picture_put script k (Err (play.Text why)) out gives = absurd gives

module _ (form : Form) (lead_in : ℕ) (left' more more' : Bytes) (out : Change Bytes) (status : Status) where
  -- a conversion of a damaged stream
  converted : GivesPacks → GivesNoneBad → (all : List ℕ) (blocks : ℕ) (packs : List (List ℕ))
      → Does (Convert lead_in form) (both (Some all) left' more more' out) status
      → IsDamagedStream form lead_in blocks packs all
      → GivesBack (concat (all_packs form blocks packs)) out status
  converted gives none all blocks packs d damaged =
      subst (λ (s : Status). GivesBack (concat (all_packs form blocks packs)) out s) (sym d.status_is)
      (given_back d.answer out (concat (all_packs form blocks packs)) (restores form lead_in (Some all) left'
      out.before out.after d.answer d.taken gives none d.did d.exactly.1 blocks packs damaged))

  pub converted_back : GivesPacks → GivesNoneBad → (left : Bytes)
      → Does (Convert lead_in form) (both left left' more more' out) status
      → IfSome left (λ all. (blocks : ℕ) (packs : List (List ℕ))
      → IsDamagedStream form lead_in blocks packs all
      → GivesBack (concat (all_packs form blocks packs)) out status)
  converted_back gives none None does = tt
  converted_back gives none (Some all) does = λ blocks packs damaged.
      converted gives none all blocks packs does damaged

  -- the screen of a scheduled stream
  shown : GivesPictures → (at : ℕ) (all : List ℕ) (script : List Drawing) (k : ℕ)
      → Does (Screen lead_in form at) (both (Some all) left' more more' out) status
      → IsScheduledStream form lead_in script all → IsHeldAt script k at → PutsPicture script k out status
  shown gives at all script k d scheduled held =
      subst (λ (s : Status). PutsPicture script k out s) (sym d.status_is)
      (picture_put script k d.answer out
      (gives form lead_in at all left' out d.answer d.taken script k scheduled held d.did d.exactly.1))

  pub shown_back : GivesPictures → (at : ℕ) (left : Bytes)
      → (status ≢ NoMemory → Does (Screen lead_in form at) (both left left' more more' out) status)
      → IfSome left (λ all. (script : List Drawing) (k : ℕ) → IsScheduledStream form lead_in script all
      → IsHeldAt script k at
      → PutsPicture script k out status)
  shown_back gives at None does = tt
  shown_back gives at (Some all) does = λ script k scheduled held.
      unless_memory _ status (λ found. shown gives at all script k (does found) scheduled held)

-- the packs of a stream, as the words of its form
pub packs_written : (form : Form) (blocks : ℕ) (packs : List (List ℕ)) → length packs ≡ whole_packs blocks
    → 2 ≤ blocks
    → all_packs form blocks packs ≡ written_packs form packs
packs_written Raw blocks packs count some =
    let none : whole_packs blocks - length packs ≡ 0 = omega (arith, count) in
    ap (λ n. packs ++ replicate n (replicate 24 0)) none ∙ append-nil packs
packs_written Sector blocks packs count some =
    let none : whole_packs blocks - length packs ≡ 0 = omega (arith, count) in
    ap (λ n. packs ++ replicate n (replicate 24 0)) none ∙ append-nil packs
packs_written Cooked blocks packs count some =
    let seven : 4 * blocks - length packs ≡ 7 = omega (arith, count, some) in
    ap (λ n. packs ++ replicate n (replicate 24 0)) seven

module _ (sheet : CueSheet) (script : List Drawing) (lead_in audio : ℕ) (stream : List ℕ)
    (packs : List (List ℕ)) (form : Form)
    (authored : IsAuthored (disc_of sheet script lead_in audio) stream packs) where
  damaged_stream : (bytes : List ℕ) → IsDamagedCopy form lead_in stream bytes
      → IsDamagedStream form lead_in (program_blocks sheet audio) packs bytes
  damaged_stream bytes d = record {
    few = d.few;
    whole = d.whole;
    symbols = program_symbols Raw stream lead_in;
    carries = authored.carries;
    damaged = d.damaged;
  }

  pub packs_back : (left : Bytes) (out : Change Bytes) (status : Status)
      → IfSome left (λ all. (blocks : ℕ) (packs : List (List ℕ))
      → IsDamagedStream form lead_in blocks packs all
      → GivesBack (concat (all_packs form blocks packs)) out status)
      → IfSome left (λ all.
      IsDamagedCopy form lead_in stream all → GivesBack (concat (written_packs form packs)) out status)
  packs_back None out status restores = tt
  packs_back (Some all) out status restores = λ damaged.
      let words : all_packs form (program_blocks sheet audio) packs ≡ written_packs form packs =
      packs_written form (program_blocks sheet audio) packs authored.schedule.count (omega (arith)) in
      subst (λ (ps : List (List ℕ)). GivesBack (concat ps) out status) words
      (restores (program_blocks sheet audio) packs (damaged_stream all damaged))

  pub pictures_shown : (left : Bytes) (out : Change Bytes) (at k : ℕ) (status : Status)
      → AreTimesInOrder script → AreColoursInRange script → IsHeldAt script k at
      → IfSome left (λ all. (script : List Drawing) (k : ℕ) → IsScheduledStream form lead_in script all
      → IsHeldAt script k at → PutsPicture script k out status)
      → IfSome left (λ all. IsDamagedCopy form lead_in stream all → PutsPicture script k out status)
  pictures_shown None out at k status order ranges held pictures = tt
  pictures_shown (Some all) out at k status order ranges held pictures = λ damaged.
      let scheduled : IsScheduledStream form lead_in script all = record {
        blocks = program_blocks sheet audio;
        packs = packs;
        stream = damaged_stream all damaged;
        schedule = authored.schedule;
        order = order;
      } in
      pictures script k scheduled held
