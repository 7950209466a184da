-- From the answer of a player to the status of a command.
use Rattle.std.specs.Io.KnownBytes.{IsAtEnd}
use Rattle.raw_subcode.specs.declared.form.Form.{Form}
use Rattle.stream_stages.specs.TextListing.{GivesTexts, IsListedBy}
use Rattle.std.proofs.Common.{Some, None, IfSome, ◌≡◌, ◌≢◌, ◌≤◌, ◌==◌, ℕ, Bool, true, false, Result, Ok, Err, IfErr, IsErrOf, refl, sym, subst, ◌∙◌, if◌then◌else◌, arith}
use Rattle.cdg_io.specs.Causes.{Rose}
use Rattle.cdg_io.specs.Change.{Bytes}
use Rattle.cdtext_packs.specs.declared.kinds.TextFault.{TextFault}
use Rattle.cdtext_packs.specs.declared.kinds.TextFault.TheVariants as fault
use Rattle.stream_stages.specs.Calls.{IsEarly, IsMomentStop, IsStreamStop}
use Rattle.stream_stages.specs.Faults.{ReportsStops}
use Rattle.stream_stages.specs.declared.played.Played.{Played}
use Rattle.stream_stages.specs.declared.played.PlayStop.{PlayStop}
use Rattle.stream_stages.specs.declared.played.PlayStop.TheVariants as play
use Rattle.cdg_cmd.specs.Keeps.{MayWrite}
use Rattle.cdg_cmd.proofs.Quiet.{count}
use Rattle.cdg_cmd.proofs.Quiet as quiet
use Rattle.cdg_cmd.specs.Faults.{ReportsOne}
use Rattle.cdg_cmd.specs.Stops.{play_status, text_fault_status}
use Rattle.cdg_cmd.specs.declared.status.Status.{Status}
use Rattle.cdg_cmd.specs.declared.status.Status.TheVariants.{Done, Damaged, NoMemory, Usage}

-- Faults

whole : (f f' k k' : ℕ) → f ≤ f' → k ≤ k' → (good : Bool) (n : ℕ) → f' ≡ f → k' ≡ k
    → ReportsOne (count f f') (count k k') (if good then Done else Damaged n)
whole f f' k k' r w true n same_read same_write =
    quiet.none f f' k k' r w Done (λ e. cc) (λ e. cc) (λ e. cc) (λ e. cc) same_read same_write
whole f f' k k' r w false n same_read same_write =
    quiet.none f f' k k' r w (Damaged n) (λ e. cc) (λ e. cc) (λ e. cc) (λ e. cc) same_read same_write

no_texts : (f f' k k' : ℕ) → f ≤ f' → k ≤ k' → (why : TextFault) → f' ≡ f → k' ≡ k
    → ReportsOne (count f f') (count k k') (text_fault_status why)
no_texts f f' k k' r w (fault.Missing seq) same_read same_write =
    quiet.none f f' k k' r w _ (λ e. cc) (λ e. cc) (λ e. cc) (λ e. cc) same_read same_write
no_texts f f' k k' r w fault.NoSize same_read same_write =
    quiet.none f f' k k' r w _ (λ e. cc) (λ e. cc) (λ e. cc) (λ e. cc) same_read same_write
no_texts f f' k k' r w (fault.Malformed seq byte) same_read same_write =
    quiet.none f f' k k' r w _ (λ e. cc) (λ e. cc) (λ e. cc) (λ e. cc) same_read same_write
no_texts f f' k k' r w fault.NoMemory same_read same_write =
    quiet.none f f' k k' r w _ (λ e. cc) (λ e. cc) (λ e. cc) (λ e. cc) same_read same_write

faults : (answer : Result Played PlayStop) (f f' k k' : ℕ) → f ≤ f' → k ≤ k'
    → (IsErrOf answer play.ReadFault → Rose f f') → (answer ≢ Err play.ReadFault → f' ≡ f)
    → (IsErrOf answer play.WriteFault → Rose k k') → (answer ≢ Err play.WriteFault → k' ≡ k)
    → ReportsOne (count f f') (count k k') (play_status answer)
faults (Ok played) f f' k k' r w rose same cut kept =
    whole f f' k k' r w (played.bad == 0) played.bad (same (λ e. cc)) (kept (λ e. cc))
faults (Err play.ReadFault) f f' k k' r w rose same cut kept =
    quiet.read f f' k k' r w (rose refl) (kept (λ e. cc))
faults (Err play.WriteFault) f f' k k' r w rose same cut kept =
    quiet.write f f' k k' r w (same (λ e. cc)) (cut refl)
faults (Err (play.Torn block)) f f' k k' r w rose same cut kept =
    quiet.none f f' k k' r w _ (λ e. cc) (λ e. cc) (λ e. cc) (λ e. cc) (same (λ e. cc)) (kept (λ e. cc))
faults (Err play.TooLong) f f' k k' r w rose same cut kept =
    quiet.none f f' k k' r w _ (λ e. cc) (λ e. cc) (λ e. cc) (λ e. cc) (same (λ e. cc)) (kept (λ e. cc))
faults (Err (play.PastEnd blocks)) f f' k k' r w rose same cut kept =
    quiet.none f f' k k' r w _ (λ e. cc) (λ e. cc) (λ e. cc) (λ e. cc) (same (λ e. cc)) (kept (λ e. cc))
faults (Err (play.Text why)) f f' k k' r w rose same cut kept =
    no_texts f f' k k' r w why (same (λ e. cc)) (kept (λ e. cc))

pub reported_one : (answer : Result Played PlayStop) (status : Status) (f f' k k' : ℕ)
    → status ≡ play_status answer → ReportsStops f f' k k' answer
    → ReportsOne (count f f') (count k k') status
reported_one answer status f f' k k' is h =
    subst (λ (s : Status). ReportsOne (count f f') (count k k') s) (sym is)
    (faults answer f f' k k' h.read.later h.write.later h.read.rose h.read.same h.write.rose h.write.same)

-- no memory was found, and nothing was done
pub reported_none : (f k : ℕ) → ReportsOne (count f f) (count k k) NoMemory
reported_none f k =
    quiet.none f f k k (omega arith) (omega arith) NoMemory (λ e. cc) (λ e. cc) (λ e. cc) (λ e. cc) refl refl

-- Stops

moment_stop : (answer : Result Played PlayStop) → IfErr answer IsStreamStop → IfErr answer IsMomentStop
moment_stop (Ok played) stops = tt
moment_stop (Err play.ReadFault) stops = tt
moment_stop (Err play.WriteFault) stops = tt
moment_stop (Err (play.Torn block)) stops = tt
moment_stop (Err play.TooLong) stops = tt
moment_stop (Err (play.PastEnd blocks)) stops = tt
moment_stop (Err (play.Text why)) stops = absurd stops

-- If the output may not be written

may_write : (good : Bool) (n : ℕ) → MayWrite (if good then Done else Damaged n)
may_write true n = tt
may_write false n = tt

untouched_at : {K : Type 0} (answer : Result Played PlayStop) (old new : K)
    → IfErr answer (λ stop. stop ≢ play.WriteFault → new ≡ old) → ¬ (MayWrite (play_status answer))
    → new ≡ old
untouched_at (Ok played) old new same none = absurd (none (may_write (played.bad == 0) played.bad))
untouched_at (Err play.ReadFault) old new same none = same (λ e. cc)
untouched_at (Err play.WriteFault) old new same none = absurd (none tt)
untouched_at (Err (play.Torn block)) old new same none = same (λ e. cc)
untouched_at (Err play.TooLong) old new same none = same (λ e. cc)
untouched_at (Err (play.PastEnd blocks)) old new same none = same (λ e. cc)
untouched_at (Err (play.Text why)) old new same none = same (λ e. cc)

pub untouched : {K : Type 0} (answer : Result Played PlayStop) (status : Status) (old new : K)
    → status ≡ play_status answer
    → IfErr answer (λ stop. stop ≢ play.WriteFault → new ≡ old) → ¬ (MayWrite status) → new ≡ old
untouched answer status old new is same none =
    untouched_at answer old new same (subst (λ (s : Status). ¬ (MayWrite s)) is none)

-- A player needs memory only for texts

whole_never : (good : Bool) (n : ℕ) → (if good then Done else Damaged n) ≢ NoMemory
whole_never true n e = absurd (cc)
whole_never false n e = absurd (cc)

never_memory_at : (answer : Result Played PlayStop) → IfErr answer IsMomentStop
    → play_status answer ≢ NoMemory
never_memory_at (Ok played) stops e = whole_never (played.bad == 0) played.bad e
never_memory_at (Err play.ReadFault) stops e = absurd (cc)
never_memory_at (Err play.WriteFault) stops e = absurd (cc)
never_memory_at (Err (play.Torn block)) stops e = absurd (cc)
never_memory_at (Err play.TooLong) stops e = absurd (cc)
never_memory_at (Err (play.PastEnd blocks)) stops e = absurd (cc)
never_memory_at (Err (play.Text why)) stops e = absurd stops

pub shown_never_memory : (answer : Result Played PlayStop) (status : Status) → status ≡ play_status answer
    → IfErr answer IsMomentStop
    → status ≢ NoMemory
shown_never_memory answer status is stops e = never_memory_at answer stops (sym is ∙ e)

pub never_memory : (answer : Result Played PlayStop) (status : Status) → status ≡ play_status answer
    → IfErr answer IsStreamStop
    → status ≢ NoMemory
never_memory answer status is stops = shown_never_memory answer status is (moment_stop answer stops)

-- A player does not read words

whole_spelled : (good : Bool) (n : ℕ) → (if good then Done else Damaged n) ≢ Usage
whole_spelled true n e = absurd (cc)
whole_spelled false n e = absurd (cc)

no_texts_spelled : (why : TextFault) → text_fault_status why ≢ Usage
no_texts_spelled (fault.Missing seq) e = absurd (cc)
no_texts_spelled fault.NoSize e = absurd (cc)
no_texts_spelled (fault.Malformed seq byte) e = absurd (cc)
no_texts_spelled fault.NoMemory e = absurd (cc)

never_usage_at : (answer : Result Played PlayStop) → play_status answer ≢ Usage
never_usage_at (Ok played) e = whole_spelled (played.bad == 0) played.bad e
never_usage_at (Err play.ReadFault) e = absurd (cc)
never_usage_at (Err play.WriteFault) e = absurd (cc)
never_usage_at (Err (play.Torn block)) e = absurd (cc)
never_usage_at (Err play.TooLong) e = absurd (cc)
never_usage_at (Err (play.PastEnd blocks)) e = absurd (cc)
never_usage_at (Err (play.Text why)) e = no_texts_spelled why e

pub never_usage : (answer : Result Played PlayStop) (status : Status) → status ≡ play_status answer
    → status ≢ Usage
never_usage answer status is e = never_usage_at answer (sym is ∙ e)

-- If memory for texts is not found, the whole input was read and its lead-in has texts

texts_if_known : (form : Form) (lead_in : ℕ) (left : Bytes)
    → IfSome left (λ all. IsListedBy (Err (play.Text fault.NoMemory)) form lead_in all)
    → IfSome left (GivesTexts form lead_in)
texts_if_known form lead_in None listed = tt
texts_if_known form lead_in (Some all) listed = listed

lacking : (answer : Result Played PlayStop) (form : Form) (lead_in : ℕ) (left left' : Bytes)
    → ((stop : PlayStop) → answer ≡ Err stop → ¬ (IsEarly stop) → IsAtEnd left')
    → IfSome left (λ all. IsListedBy answer form lead_in all) → play_status answer ≡ NoMemory
    → IsAtEnd left' × IfSome left (GivesTexts form lead_in)
lacking (Ok played) form lead_in left left' ended listed none =
    absurd (whole_never (played.bad == 0) played.bad none)
lacking (Err play.ReadFault) form lead_in left left' ended listed none = absurd (cc)
lacking (Err play.WriteFault) form lead_in left left' ended listed none = absurd (cc)
lacking (Err (play.Torn block)) form lead_in left left' ended listed none = absurd (cc)
lacking (Err play.TooLong) form lead_in left left' ended listed none = absurd (cc)
lacking (Err (play.PastEnd blocks)) form lead_in left left' ended listed none = absurd (cc)
lacking (Err (play.Text (fault.Missing seq))) form lead_in left left' ended listed none = absurd (cc)
lacking (Err (play.Text fault.NoSize)) form lead_in left left' ended listed none = absurd (cc)
lacking (Err (play.Text (fault.Malformed seq byte))) form lead_in left left' ended listed none = absurd (cc)
lacking (Err (play.Text fault.NoMemory)) form lead_in left left' ended listed none =
    (ended (play.Text fault.NoMemory) refl (λ early. cc), texts_if_known form lead_in left listed)

pub out_of_memory_is : (answer : Result Played PlayStop) (status : Status) (form : Form) (lead_in : ℕ)
    (left left' : Bytes) → status ≡ play_status answer
    → ((stop : PlayStop) → answer ≡ Err stop → ¬ (IsEarly stop) → IsAtEnd left')
    → IfSome left (λ all. IsListedBy answer form lead_in all) → status ≡ NoMemory
    → IsAtEnd left' × IfSome left (GivesTexts form lead_in)
out_of_memory_is answer status form lead_in left left' is ended listed none =
    lacking answer form lead_in left left' ended listed (sym is ∙ none)
