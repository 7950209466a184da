-- From the answers of the steps of `author` to its status.
use Rattle.std.proofs.Common.{◌≡◌, ◌≢◌, ◌≤◌, ℕ, Result, Ok, Err, refl, sym, ap, subst, arith}
use Rattle.cdg_io.specs.Causes.{Rose, ReportsFault}
use Rattle.subcode_author.specs.declared.stops.AuthorStop.{AuthorStop}
use Rattle.subcode_author.specs.declared.stops.AuthorStop.TheVariants as stop
use Rattle.cdg_cmd.specs.Authors.{IsScriptStop, IsSheetStop}
use Rattle.cdg_io.specs.Change.{Bytes}
use Rattle.cdg_cmd.specs.Faults.{IsReported, ReportsFaults}
use Rattle.cdg_cmd.specs.Stops.{author_status}
use Rattle.cdg_cmd.specs.declared.status.Which.TheVariants.{First, Second}
use Rattle.cdg_cmd.specs.declared.status.Status.{Status}
use Rattle.cdg_cmd.specs.declared.status.Status.TheVariants.{ReadFault, WriteFault}
use Rattle.cdg_cmd.proofs.Quiet.{count, silent, reported}

-- an unchanged count
pub still : (fault status : Status) (n : ℕ) → status ≢ fault → IsReported fault (count n n) status
still fault status n other = silent fault status n n (omega arith) other refl

-- the count of an input, from the answer of the function that read it
pub of_input : {A : Type 0} (fault status : Status) (n n' : ℕ) → ReportsFault {T = A} fault n n' (Err status)
    → IsReported fault (count n n') status
of_input {A} fault status n n' read = record {
  later = read.later;
  rose = λ e. read.rose (ap (λ (s : Status). Err s) e);
  same = λ other. read.same (λ e. other (cc));
}

not_second : (left : Bytes) (status : Status) → IsSheetStop left status → status ≢ ReadFault Second
not_second left status why e = subst (IsSheetStop left) e why

not_first : (left : Bytes) (status : Status) → IsScriptStop left status → status ≢ ReadFault First
not_first left status why e = subst (IsScriptStop left) e why

sheet_not_cut : (left : Bytes) (status : Status) → IsSheetStop left status → status ≢ WriteFault
sheet_not_cut left status why e = subst (IsSheetStop left) e why

script_not_cut : (left : Bytes) (status : Status) → IsScriptStop left status → status ≢ WriteFault
script_not_cut left status why e = subst (IsScriptStop left) e why

-- the cue sheet stopped the command
pub report_at_sheet : {A : Type 0} (status : Status) (left : Bytes) (f f' t k : ℕ) → IsSheetStop left status
    → ReportsFault {T = A} (ReadFault First) f f' (Err status)
    → ReportsFaults (record { first = count f f'; second = count t t; out = count k k }) status
report_at_sheet status left f f' t k why read = record {
  first = of_input (ReadFault First) status f f' read;
  second = still (ReadFault Second) status t (not_second left status why);
  out = still WriteFault status k (sheet_not_cut left status why);
}

-- the script stopped the command
pub report_at_script : {A B : Type 0} (sheet : B) (status : Status) (left : Bytes) (f f' t t' k : ℕ)
    → IsScriptStop left status → ReportsFault {T = B} (ReadFault First) f f' (Ok sheet)
    → ReportsFault {T = A} (ReadFault Second) t t' (Err status)
    → ReportsFaults (record { first = count f f'; second = count t t'; out = count k k }) status
report_at_script sheet status left f f' t t' k why first second = record {
  first = silent (ReadFault First) status f f' first.later (not_first left status why) (first.same (λ e. cc));
  second = of_input (ReadFault Second) status t t' second;
  out = still WriteFault status k (script_not_cut left status why);
}

written : (answer : Result (Unit {0}) AuthorStop) (k k' : ℕ) → k ≤ k'
    → (answer ≡ Err stop.WriteFault → Rose k k') → (answer ≢ Err stop.WriteFault → k' ≡ k)
    → IsReported WriteFault (count k k') (author_status answer)
written (Err stop.WriteFault) k k' later cut same = reported WriteFault k k' later (cut refl)
written (Ok done) k k' later cut same = silent WriteFault _ k k' later (λ e. cc) (same (λ e. cc))
written (Err (stop.LengthShort need)) k k' later cut same =
    silent WriteFault _ k k' later (λ e. cc) (same (λ e. cc))
written (Err (stop.DiscTooLong blocks)) k k' later cut same =
    silent WriteFault _ k k' later (λ e. cc) (same (λ e. cc))
written (Err (stop.PastEnd blocks)) k k' later cut same =
    silent WriteFault _ k k' later (λ e. cc) (same (λ e. cc))
written (Err (stop.TextTooLong packs)) k k' later cut same =
    silent WriteFault _ k k' later (λ e. cc) (same (λ e. cc))
written (Err (stop.LeadInShort need)) k k' later cut same =
    silent WriteFault _ k k' later (λ e. cc) (same (λ e. cc))
written (Err (stop.Late picture need free)) k k' later cut same =
    silent WriteFault _ k k' later (λ e. cc) (same (λ e. cc))
written (Err stop.NoMemory) k k' later cut same = silent WriteFault _ k k' later (λ e. cc) (same (λ e. cc))

read_by : (answer : Result (Unit {0}) AuthorStop) (n n' : ℕ) → n ≤ n' → n' ≡ n
    → IsReported (ReadFault First) (count n n') (author_status answer)
    × IsReported (ReadFault Second) (count n n') (author_status answer)
read_by (Ok done) n n' later same = (
  silent (ReadFault First) _ n n' later (λ e. cc) same,
  silent (ReadFault Second) _ n n' later (λ e. cc) same,
)
read_by (Err (stop.LengthShort need)) n n' later same = (
  silent (ReadFault First) _ n n' later (λ e. cc) same,
  silent (ReadFault Second) _ n n' later (λ e. cc) same,
)
read_by (Err (stop.DiscTooLong blocks)) n n' later same = (
  silent (ReadFault First) _ n n' later (λ e. cc) same,
  silent (ReadFault Second) _ n n' later (λ e. cc) same,
)
read_by (Err (stop.PastEnd blocks)) n n' later same = (
  silent (ReadFault First) _ n n' later (λ e. cc) same,
  silent (ReadFault Second) _ n n' later (λ e. cc) same,
)
read_by (Err (stop.TextTooLong packs)) n n' later same = (
  silent (ReadFault First) _ n n' later (λ e. cc) same,
  silent (ReadFault Second) _ n n' later (λ e. cc) same,
)
read_by (Err (stop.LeadInShort need)) n n' later same = (
  silent (ReadFault First) _ n n' later (λ e. cc) same,
  silent (ReadFault Second) _ n n' later (λ e. cc) same,
)
read_by (Err (stop.Late picture need free)) n n' later same = (
  silent (ReadFault First) _ n n' later (λ e. cc) same,
  silent (ReadFault Second) _ n n' later (λ e. cc) same,
)
read_by (Err stop.NoMemory) n n' later same = (
  silent (ReadFault First) _ n n' later (λ e. cc) same,
  silent (ReadFault Second) _ n n' later (λ e. cc) same,
)
read_by (Err stop.WriteFault) n n' later same = (
  silent (ReadFault First) _ n n' later (λ e. cc) same,
  silent (ReadFault Second) _ n n' later (λ e. cc) same,
)

reported_at_end : (answer : Result (Unit {0}) AuthorStop) (f f' t t' k k' : ℕ) → f ≤ f' → f' ≡ f → t ≤ t'
    → t' ≡ t
    → k ≤ k' → (answer ≡ Err stop.WriteFault → Rose k k')
    → (answer ≢ Err stop.WriteFault → k' ≡ k)
    → ReportsFaults (record { first = count f f'; second = count t t'; out = count k k' })
    (author_status answer)
reported_at_end answer f f' t t' k k' early first late second later cut same = record {
  first = (read_by answer f f' early first).0;
  second = (read_by answer t t' late second).1;
  out = written answer k k' later cut same;
}

-- both texts were read
pub reported_of_both : {A B : Type 0} (sheet : A) (script : B) (answer : Result (Unit {0}) AuthorStop)
    (status : Status) (f f' t t' k k' : ℕ) → status ≡ author_status answer
    → ReportsFault {T = A} (ReadFault First) f f' (Ok sheet)
    → ReportsFault {T = B} (ReadFault Second) t t' (Ok script) → ReportsFault stop.WriteFault k k' answer
    → ReportsFaults (record { first = count f f'; second = count t t'; out = count k k' }) status
reported_of_both sheet script answer status f f' t t' k k' is first second out =
    subst
    (λ (s : Status). ReportsFaults (record { first = count f f'; second = count t t'; out = count k k' }) s)
    (sym is)
    (reported_at_end answer f f' t t' k k' first.later (first.same (λ e. cc)) second.later
    (second.same (λ e. cc))
    out.later out.rose out.same)
