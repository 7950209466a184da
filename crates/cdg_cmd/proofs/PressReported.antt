-- From the answers of the steps of `press` to its status.
use Rattle.std.proofs.Common.{◌≡◌, ◌≢◌, ◌≤◌, ℕ, List, [], Result, Ok, Err, OnOk, IfErr, refl, sym, ap, subst}
use Rattle.std.specs.Io.KnownBytes.{Appends}
use Rattle.cdg_io.specs.Causes.{Rose, ReportsFault}
use Rattle.cue_sheet.specs.CueSheet.{CueSheet}
use Rattle.cdg_press.specs.Pressed.{IsPressed, press_of}
use Rattle.cdg_press.specs.Refusals.{IsPressable, IsPressStop}
use Rattle.cdg_press.specs.declared.stops.PressStop.{PressStop}
use Rattle.cdg_press.specs.declared.stops.PressStop.TheVariants as stop
use Rattle.cdg_io.specs.Change.{Bytes, change}
use Rattle.cdg_cmd.specs.Faults.{IsReported, ReportsFaults}
use Rattle.cdg_cmd.specs.Presses.{IsFileStop, IsPressedFor, PutsPressedPrefix}
use Rattle.cdg_cmd.specs.Stops.{press_status}
use Rattle.cdg_cmd.specs.declared.status.Which.TheVariants.{First, Second}
use Rattle.cdg_cmd.specs.declared.status.Status.{Status}
use Rattle.cdg_cmd.specs.declared.status.Status.TheVariants.{Done, Usage, ReadFault, WriteFault}
use Rattle.cdg_cmd.proofs.AuthorStatus.{unchanged}
use Rattle.cdg_cmd.proofs.AuthorReported.{of_input, still}
use Rattle.cdg_cmd.proofs.Quiet.{count, silent, reported}

not_first : (left : Bytes) (status : Status) → IsFileStop left status → status ≢ ReadFault First
not_first left status why e = subst (IsFileStop left) e why

not_cut : (left : Bytes) (status : Status) → IsFileStop left status → status ≢ WriteFault
not_cut left status why e = subst (IsFileStop left) e why

-- the file stopped the command
pub report_at_file : {A B : Type 0} (sheet : B) (status : Status) (left : Bytes) (f f' t t' k : ℕ)
    → IsFileStop left status → ReportsFault {T = B} (ReadFault First) f f' (Ok sheet)
    → ReportsFault {T = A} (ReadFault Second) t t' (Err status)
    → ReportsFaults (record { first = count f f'; second = count t t'; out = count k k }) status
report_at_file sheet status left f f' t t' k why first second = record {
  first = silent (ReadFault First) status f f' first.later (not_first left status why) (first.same (λ e. cc));
  second = of_input (ReadFault Second) status t t' second;
  out = still WriteFault status k (not_cut left status why);
}

written : (answer : Result (Unit {0}) PressStop) (k k' : ℕ) → k ≤ k'
    → (answer ≡ Err stop.WriteFault → Rose k k') → (answer ≢ Err stop.WriteFault → k' ≡ k)
    → IsReported WriteFault (count k k') (press_status answer)
written (Err stop.WriteFault) k k' later cut same = reported WriteFault k k' later (cut refl)
written (Ok done) k k' later cut same = silent WriteFault _ k k' later (λ e. cc) (same (λ e. cc))
written (Err (stop.PackTorn pack)) k k' later cut same =
    silent WriteFault _ k k' later (λ e. cc) (same (λ e. cc))
written (Err (stop.LengthShort need)) k k' later cut same =
    silent WriteFault _ k k' later (λ e. cc) (same (λ e. cc))
written (Err (stop.DiscTooLong blocks)) k k' later cut same =
    silent WriteFault _ k k' later (λ e. cc) (same (λ e. cc))
written (Err (stop.Gap track)) k k' later cut same = silent WriteFault _ k k' later (λ e. cc) (same (λ e. cc))
written (Err (stop.CdgTooLong packs room)) k k' later cut same =
    silent WriteFault _ k k' later (λ e. cc) (same (λ e. cc))
written (Err (stop.TextTooLong packs)) k k' later cut same =
    silent WriteFault _ k k' later (λ e. cc) (same (λ e. cc))
written (Err (stop.LeadInShort need)) k k' later cut same =
    silent WriteFault _ k k' later (λ e. cc) (same (λ e. cc))
written (Err stop.NoMemory) k k' later cut same = silent WriteFault _ k k' later (λ e. cc) (same (λ e. cc))

read_by : (answer : Result (Unit {0}) PressStop) (n n' : ℕ) → n ≤ n' → n' ≡ n
    → IsReported (ReadFault First) (count n n') (press_status answer)
    × IsReported (ReadFault Second) (count n n') (press_status answer)
read_by (Ok done) n n' later same = (
  silent (ReadFault First) _ n n' later (λ e. cc) same,
  silent (ReadFault Second) _ n n' later (λ e. cc) same,
)
read_by (Err (stop.PackTorn pack)) n n' later same = (
  silent (ReadFault First) _ n n' later (λ e. cc) same,
  silent (ReadFault Second) _ n n' later (λ e. cc) same,
)
read_by (Err (stop.LengthShort need)) n n' later same = (
  silent (ReadFault First) _ n n' later (λ e. cc) same,
  silent (ReadFault Second) _ n n' later (λ e. cc) same,
)
read_by (Err (stop.DiscTooLong blocks)) n n' later same = (
  silent (ReadFault First) _ n n' later (λ e. cc) same,
  silent (ReadFault Second) _ n n' later (λ e. cc) same,
)
read_by (Err (stop.Gap track)) n n' later same = (
  silent (ReadFault First) _ n n' later (λ e. cc) same,
  silent (ReadFault Second) _ n n' later (λ e. cc) same,
)
read_by (Err (stop.CdgTooLong packs room)) n n' later same = (
  silent (ReadFault First) _ n n' later (λ e. cc) same,
  silent (ReadFault Second) _ n n' later (λ e. cc) same,
)
read_by (Err (stop.TextTooLong packs)) n n' later same = (
  silent (ReadFault First) _ n n' later (λ e. cc) same,
  silent (ReadFault Second) _ n n' later (λ e. cc) same,
)
read_by (Err (stop.LeadInShort need)) n n' later same = (
  silent (ReadFault First) _ n n' later (λ e. cc) same,
  silent (ReadFault Second) _ n n' later (λ e. cc) same,
)
read_by (Err stop.NoMemory) n n' later same = (
  silent (ReadFault First) _ n n' later (λ e. cc) same,
  silent (ReadFault Second) _ n n' later (λ e. cc) same,
)
read_by (Err stop.WriteFault) n n' later same = (
  silent (ReadFault First) _ n n' later (λ e. cc) same,
  silent (ReadFault Second) _ n n' later (λ e. cc) same,
)

reported_at_end : (answer : Result (Unit {0}) PressStop) (f f' t t' k k' : ℕ) → f ≤ f' → f' ≡ f → t ≤ t'
    → t' ≡ t
    → k ≤ k' → (answer ≡ Err stop.WriteFault → Rose k k')
    → (answer ≢ Err stop.WriteFault → k' ≡ k)
    → ReportsFaults (record { first = count f f'; second = count t t'; out = count k k' })
    (press_status answer)
reported_at_end answer f f' t t' k k' early first late second later cut same = record {
  first = (read_by answer f f' early first).0;
  second = (read_by answer t t' late second).1;
  out = written answer k k' later cut same;
}

-- both inputs were read
pub reported_of_both : {A B : Type 0} (sheet : A) (file : B) (answer : Result (Unit {0}) PressStop)
    (status : Status) (f f' t t' k k' : ℕ) → status ≡ press_status answer
    → ReportsFault {T = A} (ReadFault First) f f' (Ok sheet)
    → ReportsFault {T = B} (ReadFault Second) t t' (Ok file) → ReportsFault stop.WriteFault k k' answer
    → ReportsFaults (record { first = count f f'; second = count t t'; out = count k k' }) status
reported_of_both sheet file answer status f f' t t' k k' is first second out =
    subst
    (λ (s : Status). ReportsFaults (record { first = count f f'; second = count t t'; out = count k k' }) s)
    (sym is)
    (reported_at_end answer f f' t t' k k' first.later (first.same (λ e. cc)) second.later
    (second.same (λ e. cc))
    out.later out.rose out.same)

-- The output

-- no answer has the status `Usage`
pub never_usage : (answer : Result (Unit {0}) PressStop) → press_status answer ≢ Usage
never_usage (Ok done) e = absurd (cc)
never_usage (Err (stop.PackTorn pack)) e = absurd (cc)
never_usage (Err (stop.LengthShort need)) e = absurd (cc)
never_usage (Err (stop.DiscTooLong blocks)) e = absurd (cc)
never_usage (Err (stop.Gap track)) e = absurd (cc)
never_usage (Err (stop.CdgTooLong packs room)) e = absurd (cc)
never_usage (Err (stop.TextTooLong packs)) e = absurd (cc)
never_usage (Err (stop.LeadInShort need)) e = absurd (cc)
never_usage (Err stop.NoMemory) e = absurd (cc)
never_usage (Err stop.WriteFault) e = absurd (cc)

-- only a finished stream and a failed write change the output
pub untouched_at : {K : Type 0} (x y : K) (answer : Result (Unit {0}) PressStop)
    → IfErr answer (λ why. why ≢ stop.WriteFault → y ≡ x)
    → press_status answer ≢ Done → press_status answer ≢ WriteFault → y ≡ x
untouched_at x y (Ok done) same not_done no_fault = absurd (not_done refl)
untouched_at x y (Err why) same not_done no_fault =
    same (λ e. no_fault (ap (λ (w : PressStop). press_status (Err w)) e))

both_ok : {E : Type 0} (answer : Result (Unit {0}) E) (P Q : Type 0) → OnOk answer P → OnOk answer Q
    → OnOk answer (P × Q)
both_ok (Ok done) P Q p q = (p, q)
both_ok (Err why) P Q p q = tt

nothing_at : {K : Type 0} (held : K → Bytes) (x y : K) (answer : Result (Unit {0}) PressStop)
    → IfErr answer (λ why. why ≢ stop.WriteFault → y ≡ x)
    → IfErr answer (λ why. why ≢ stop.WriteFault → Appends (held x) (held y) [])
nothing_at held x y (Ok done) same = tt
nothing_at held x y (Err why) same = λ other. unchanged held x y (same other)

pub pressed_for : {K : Type 0} (held : K → Bytes) (x y : K) (sheet : CueSheet) (file : List ℕ)
    (lead_in audio : ℕ) (answer : Result (Unit {0}) PressStop)
    → OnOk answer ((bytes : List ℕ)
    × (packs : List (List ℕ))
    × IsPressed (press_of sheet file lead_in audio) bytes packs
    × Appends (held x) (held y) bytes)
    → OnOk answer (IsPressable sheet file lead_in audio) → IfErr answer (IsPressStop sheet file lead_in audio)
    → IfErr answer (λ why. why ≢ stop.WriteFault → y ≡ x)
    → (answer ≡ Err stop.WriteFault → PutsPressedPrefix (press_of sheet file lead_in audio) (change held x y))
    → IsPressedFor (press_of sheet file lead_in audio) (change held x y) answer
pressed_for held x y sheet file lead_in audio answer pressed accepted why same part = record {
  done = both_ok answer _ _ accepted pressed;
  why = why;
  cut = part;
  nothing = nothing_at held x y answer same;
}
