-- The statuses of the answers to a sheet and a script.
use Rattle.std.proofs.Common.{◌≡◌, ◌≢◌, ℕ, List, [], Result, Ok, Err, OnOk, IfErr, refl, sym, ap, subst}
use Rattle.std.specs.Io.KnownBytes.{Appends}
use Rattle.cue_sheet.specs.CueSheet.{CueSheet}
use Rattle.picture_script.specs.Script.{Drawing}
use Rattle.subcode_author.specs.Authored.{IsWrittenStream, disc_of}
use Rattle.subcode_author.specs.AuthorAnswer.{IsAccepted, IsAuthorStop}
use Rattle.subcode_author.specs.declared.stops.AuthorStop.{AuthorStop}
use Rattle.subcode_author.specs.declared.stops.AuthorStop.TheVariants as stop
use Rattle.cdg_cmd.specs.Authors.{IsPutFor, PutsPrefix}
use Rattle.cdg_cmd.specs.Stops.{author_status}
use Rattle.cdg_cmd.specs.declared.status.Status.TheVariants.{Done, Usage, WriteFault}
use Rattle.cdg_io.specs.Change.{Bytes, change}
use Rattle.std.proofs.KnownBytes.{Appends-nil}

-- no answer has the status `Usage`
pub never_usage : (answer : Result (Unit {0}) AuthorStop) → author_status answer ≢ Usage
never_usage (Ok done) e = absurd (cc)
never_usage (Err (stop.LengthShort need)) e = absurd (cc)
never_usage (Err (stop.DiscTooLong blocks)) e = absurd (cc)
never_usage (Err (stop.PastEnd blocks)) e = absurd (cc)
never_usage (Err (stop.TextTooLong packs)) e = absurd (cc)
never_usage (Err (stop.LeadInShort need)) e = absurd (cc)
never_usage (Err (stop.Late picture need free)) e = absurd (cc)
never_usage (Err stop.WriteFault) e = absurd (cc)
never_usage (Err stop.NoMemory) e = absurd (cc)

-- an unchanged object contains the same bytes
pub unchanged : {K : Type 0} (held : K → Bytes) (x y : K) → y ≡ x → Appends (held x) (held y) []
unchanged {K} held x y same =
    subst (λ (z : K). Appends (held x) (held z) []) (sym same) (Appends-nil (held x))

-- only a finished stream and a failed write change the output
pub untouched_at : {K : Type 0} (x y : K) (answer : Result (Unit {0}) AuthorStop)
    → IfErr answer (λ why. why ≢ stop.WriteFault → y ≡ x)
    → author_status answer ≢ Done → author_status answer ≢ WriteFault → y ≡ x
untouched_at x y (Ok done) same not_done no_fault = absurd (not_done refl)
untouched_at x y (Err why) same not_done no_fault =
    same (λ e. no_fault (ap (λ (w : AuthorStop). author_status (Err w)) e))

both_ok : {E : Type 0} (answer : Result (Unit {0}) E) (P Q : Type 0) → OnOk answer P → OnOk answer Q
    → OnOk answer (P × Q)
both_ok (Ok done) P Q p q = (p, q)
both_ok (Err why) P Q p q = tt

accepted_at : (sheet : CueSheet) (script : List Drawing) (lead_in audio : ℕ)
    (answer : Result (Unit {0}) AuthorStop) → IfErr answer (IsAuthorStop sheet script lead_in audio)
    → answer ≡ Err stop.WriteFault → IsAccepted sheet script lead_in audio
accepted_at sheet script lead_in audio answer why fault =
    subst (λ (r : Result (Unit {0}) AuthorStop). IfErr r (IsAuthorStop sheet script lead_in audio)) fault why

nothing_at : {K : Type 0} (held : K → Bytes) (x y : K) (answer : Result (Unit {0}) AuthorStop)
    → IfErr answer (λ why. why ≢ stop.WriteFault → y ≡ x)
    → IfErr answer (λ why. why ≢ stop.WriteFault → Appends (held x) (held y) [])
nothing_at held x y (Ok done) same = tt
nothing_at held x y (Err why) same = λ other. unchanged held x y (same other)

pub put_for : {K : Type 0} (held : K → Bytes) (x y : K) (sheet : CueSheet) (script : List Drawing)
    (lead_in audio : ℕ) (answer : Result (Unit {0}) AuthorStop)
    → OnOk answer ((bytes : List ℕ)
    × (packs : List (List ℕ))
    × IsWrittenStream (disc_of sheet script lead_in audio) bytes packs
    × Appends (held x) (held y) bytes)
    → OnOk answer (IsAccepted sheet script lead_in audio)
    → IfErr answer (IsAuthorStop sheet script lead_in audio)
    → IfErr answer (λ why. why ≢ stop.WriteFault → y ≡ x) → (answer ≡ Err stop.WriteFault
    → IsAccepted sheet script lead_in audio
    → PutsPrefix (disc_of sheet script lead_in audio) (change held x y))
    → IsPutFor (disc_of sheet script lead_in audio) (change held x y) answer
put_for held x y sheet script lead_in audio answer authored accepted why same part = record {
  done = both_ok answer _ _ accepted authored;
  why = why;
  cut = λ fault. part fault (accepted_at sheet script lead_in audio answer why fault);
  nothing = nothing_at held x y answer same;
}
