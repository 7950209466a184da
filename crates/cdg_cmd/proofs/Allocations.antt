-- When a status reports that no memory was found.
use Rattle.std.proofs.Common.{◌≡◌, ◌≢◌, ◌≤◌, ◌==◌, ◌⊎◌, inl, inr, ℕ, Bool, true, false, Result, Ok, Err, refl, sym, ap, subst, arith, if◌then◌else◌}
use Rattle.cdg_io.specs.Causes.{Rose, ReportsFault}
use Rattle.cdg_io.specs.declared.whole.ReadStop.{ReadStop}
use Rattle.cdg_io.specs.declared.whole.ReadStop.TheVariants as read
use Rattle.cue_sheet.specs.declared.fault.CueStop.{CueStop}
use Rattle.cue_sheet.specs.declared.fault.CueStop.TheVariants as sheet
use Rattle.picture_script.specs.declared.reasons.ScriptStop.{ScriptStop}
use Rattle.picture_script.specs.declared.reasons.ScriptStop.TheVariants as script
use Rattle.cdtext_packs.specs.declared.kinds.TextFault.TheVariants as fault
use Rattle.stream_stages.specs.declared.played.Played.{Played}
use Rattle.stream_stages.specs.declared.played.PlayStop.{PlayStop}
use Rattle.stream_stages.specs.declared.played.PlayStop.TheVariants as play
use Rattle.subcode_author.specs.declared.stops.AuthorStop.{AuthorStop}
use Rattle.subcode_author.specs.declared.stops.AuthorStop.TheVariants as author
use Rattle.cdg_press.specs.declared.stops.PressStop.{PressStop}
use Rattle.cdg_press.specs.declared.stops.PressStop.TheVariants as press
use Rattle.cdg_cmd.specs.Faults.{IsReported}
use Rattle.cdg_cmd.specs.Stops.{author_status, play_status, press_status, read_status, script_status, sheet_status}
use Rattle.cdg_cmd.specs.declared.status.Which.{Which}
use Rattle.cdg_cmd.specs.declared.status.Status.{Status}
use Rattle.cdg_cmd.specs.declared.status.Status.TheVariants.{Done, Damaged, WriteFault, NoMemory}
use Rattle.cdg_cmd.proofs.Quiet.{count, silent, reported}

-- neither the answer nor the status reports it
others : {A E : Type 0} (lack : E) (answer : Result A E) (status : Status) (n n' : ℕ)
    → ReportsFault lack n n' answer → answer ≢ Err lack → status ≢ NoMemory
    → IsReported NoMemory (count n n') status
others lack answer status n n' noted other silence =
    silent NoMemory status n n' noted.later silence (noted.same other)

-- a command that needs no memory
pub takes_none : (status : Status) (n : ℕ) → status ≢ NoMemory → IsReported NoMemory (count n n) status
takes_none status n silence = silent NoMemory status n n (omega arith) silence refl

pub not_lacking : (status : Status) → (status ≡ Done) ⊎ (status ≡ WriteFault) → status ≢ NoMemory
not_lacking status (inl is) e = absurd (cc)
not_lacking status (inr is) e = absurd (cc)

pub generates : (status : Status) (n : ℕ) → (status ≡ Done) ⊎ (status ≡ WriteFault)
    → IsReported NoMemory (count n n) status
generates status n is = takes_none status n (not_lacking status is)

-- the answer reports it
lacked : {A E : Type 0} (lack : E) (n n' : ℕ) → ReportsFault {T = A} lack n n' (Err lack)
    → IsReported NoMemory (count n n') NoMemory
lacked lack n n' noted = reported NoMemory n n' noted.later (noted.rose refl)

-- the status that ended the reading of a text
pub stopped : {A : Type 0} (status : Status) (n n' : ℕ) → ReportsFault {T = A} NoMemory n n' (Err status)
    → IsReported NoMemory (count n n') status
stopped {A} status n n' reported = record {
  later = reported.later;
  rose = λ e. reported.rose (ap (λ (s : Status). Err s) e);
  same = λ other. reported.same (λ e. other (cc));
}

-- memory was allocated before anything else was done, or was not found
module _ {A E : Type 0} (n n' : ℕ) where
  pub found_first : (lack : E) (value : A) (status : Status) → ReportsFault lack n n' (Ok value)
      → status ≢ NoMemory → IsReported NoMemory (count n n') status
  found_first lack value status noted silence =
      silent NoMemory status n n' noted.later silence (noted.same (λ e. cc))

  pub lacked_first : (lack stop : E) → stop ≡ lack → ReportsFault {T = A} lack n n' (Err stop)
      → IsReported NoMemory (count n n') NoMemory
  lacked_first lack stop is noted =
      reported NoMemory n n' noted.later (noted.rose (ap (λ (e : E). Err e) is))

  -- if memory was found, its fault count is unchanged
  pub kept_first : (lack : E) (value : A) → ReportsFault lack n n' (Ok value) → n' ≡ n
  kept_first lack value noted = noted.same (λ e. cc)

-- a later call, before which the count was unchanged
pub reached : (status : Status) (n n' n'' : ℕ) → n' ≡ n → IsReported NoMemory (count n' n'') status
    → IsReported NoMemory (count n n'') status
reached status n n' n'' same counted =
    subst (λ (m : ℕ). IsReported NoMemory (count m n'') status) same counted

-- the count is unchanged after a text was read
pub as_it_was : {A : Type 0} (text : A) (n n' : ℕ) → ReportsFault {T = A} NoMemory n n' (Ok text) → n' ≡ n
as_it_was text n n' reported = reported.same (λ e. cc)

pub found : {A : Type 0} (text : A) (n n' : ℕ) → n' ≡ n → ReportsFault {T = A} NoMemory n n' (Ok text)
found text n n' same =
    record { later = omega (arith, same); rose = λ e. absurd (cc); same = λ other. same }

-- the same count under another name
pub counted_from : {A : Type 0} (status : Status) (n m n' : ℕ) → n ≡ m
    → ReportsFault {T = A} NoMemory n n' (Err status) → ReportsFault {T = A} NoMemory m n' (Err status)
counted_from {A} status n m n' is reported =
    subst (λ (k : ℕ). ReportsFault {T = A} NoMemory k n' (Err status)) is reported

-- the status of a stop that was counted
module _ {A : Type 0} (n n' : ℕ) (later : n ≤ n') where
  is_lacked : Rose n n' → ReportsFault {T = A} NoMemory n n' (Err NoMemory)
  is_lacked rose = record { later = later; rose = λ e. rose; same = λ other. absurd (other refl) }

  not_lacked : (status : Status) → status ≢ NoMemory → n' ≡ n
      → ReportsFault {T = A} NoMemory n n' (Err status)
  not_lacked status silence same =
      record { later = later; rose = λ e. absurd (silence (cc)); same = λ e. same }

module _ {A : Type 0} (n n' : ℕ) (later : n ≤ n') where
  read_at : (which : Which) (stop : ReadStop) → (stop ≡ read.NoMemory → Rose n n')
      → (stop ≢ read.NoMemory → n' ≡ n)
      → ReportsFault {T = A} NoMemory n n' (Err (read_status which stop))
  read_at which read.Failed lacks other =
      not_lacked n n' later (read_status which read.Failed) (λ e. cc) (other (λ e. cc))
  read_at which read.TooLong lacks other =
      not_lacked n n' later (read_status which read.TooLong) (λ e. cc) (other (λ e. cc))
  read_at which read.NoMemory lacks other = is_lacked n n' later (lacks refl)

  pub unread : (which : Which) (stop : ReadStop) (status : Status) → status ≡ read_status which stop
      → (stop ≡ read.NoMemory → Rose n n') → (stop ≢ read.NoMemory → n' ≡ n)
      → ReportsFault {T = A} NoMemory n n' (Err status)
  unread which stop status is lacks other =
      subst (λ (s : Status). ReportsFault {T = A} NoMemory n n' (Err s)) (sym is)
      (read_at which stop lacks other)

  sheet_at : (stop : CueStop) → (stop ≡ sheet.NoMemory → Rose n n') → (stop ≢ sheet.NoMemory → n' ≡ n)
      → ReportsFault {T = A} NoMemory n n' (Err (sheet_status stop))
  sheet_at (sheet.Fault line why) lacks other =
      not_lacked n n' later (sheet_status (sheet.Fault line why)) (λ e. cc) (other (λ e. cc))
  sheet_at sheet.NoMemory lacks other = is_lacked n n' later (lacks refl)

  pub no_sheet : {B : Type 0} (stop : CueStop) (status : Status) → status ≡ sheet_status stop
      → ReportsFault {T = B} sheet.NoMemory n n' (Err stop) → ReportsFault {T = A} NoMemory n n' (Err status)
  no_sheet stop status is noted =
      subst (λ (s : Status). ReportsFault {T = A} NoMemory n n' (Err s)) (sym is)
      (sheet_at stop (λ e. noted.rose (ap (λ (s : CueStop). Err s) e))
      (λ other. noted.same (λ e. other (cc))))

  script_at : (stop : ScriptStop) → (stop ≡ script.NoMemory → Rose n n') → (stop ≢ script.NoMemory → n' ≡ n)
      → ReportsFault {T = A} NoMemory n n' (Err (script_status stop))
  script_at (script.Fault line why) lacks other =
      not_lacked n n' later (script_status (script.Fault line why)) (λ e. cc) (other (λ e. cc))
  script_at script.NoMemory lacks other = is_lacked n n' later (lacks refl)

  pub no_script : {B : Type 0} (stop : ScriptStop) (status : Status) → status ≡ script_status stop
      → ReportsFault {T = B} script.NoMemory n n' (Err stop) → ReportsFault {T = A} NoMemory n n' (Err status)
  no_script stop status is noted =
      subst (λ (s : Status). ReportsFault {T = A} NoMemory n n' (Err s)) (sym is)
      (script_at stop (λ e. noted.rose (ap (λ (s : ScriptStop). Err s) e))
      (λ other. noted.same (λ e. other (cc))))

-- the answers to a sheet with a script or a file, and to a list of texts

module _ (n n' : ℕ) where
  authored : (answer : Result (Unit {0}) AuthorStop) → ReportsFault author.NoMemory n n' answer
      → IsReported NoMemory (count n n') (author_status answer)
  authored (Err author.NoMemory) noted = lacked author.NoMemory n n' noted
  authored (Ok done) noted = others author.NoMemory (Ok done) _ n n' noted (λ e. cc) (λ e. cc)
  authored (Err (author.LengthShort need)) noted = others author.NoMemory _ _ n n' noted (λ e. cc) (λ e. cc)
  authored (Err (author.DiscTooLong blocks)) noted = others author.NoMemory _ _ n n' noted (λ e. cc) (λ e. cc)
  authored (Err (author.PastEnd blocks)) noted = others author.NoMemory _ _ n n' noted (λ e. cc) (λ e. cc)
  authored (Err (author.TextTooLong packs)) noted = others author.NoMemory _ _ n n' noted (λ e. cc) (λ e. cc)
  authored (Err (author.LeadInShort need)) noted = others author.NoMemory _ _ n n' noted (λ e. cc) (λ e. cc)
  authored (Err (author.Late picture need free)) noted =
      others author.NoMemory _ _ n n' noted (λ e. cc) (λ e. cc)
  authored (Err author.WriteFault) noted = others author.NoMemory _ _ n n' noted (λ e. cc) (λ e. cc)

  pressed : (answer : Result (Unit {0}) PressStop) → ReportsFault press.NoMemory n n' answer
      → IsReported NoMemory (count n n') (press_status answer)
  pressed (Err press.NoMemory) noted = lacked press.NoMemory n n' noted
  pressed (Ok done) noted = others press.NoMemory (Ok done) _ n n' noted (λ e. cc) (λ e. cc)
  pressed (Err (press.PackTorn pack)) noted = others press.NoMemory _ _ n n' noted (λ e. cc) (λ e. cc)
  pressed (Err (press.LengthShort need)) noted = others press.NoMemory _ _ n n' noted (λ e. cc) (λ e. cc)
  pressed (Err (press.DiscTooLong blocks)) noted = others press.NoMemory _ _ n n' noted (λ e. cc) (λ e. cc)
  pressed (Err (press.Gap track)) noted = others press.NoMemory _ _ n n' noted (λ e. cc) (λ e. cc)
  pressed (Err (press.CdgTooLong packs room)) noted = others press.NoMemory _ _ n n' noted (λ e. cc) (λ e. cc)
  pressed (Err (press.TextTooLong packs)) noted = others press.NoMemory _ _ n n' noted (λ e. cc) (λ e. cc)
  pressed (Err (press.LeadInShort need)) noted = others press.NoMemory _ _ n n' noted (λ e. cc) (λ e. cc)
  pressed (Err press.WriteFault) noted = others press.NoMemory _ _ n n' noted (λ e. cc) (λ e. cc)

  abbrev lack : PlayStop
  lack = play.Text fault.NoMemory

  whole_listed : (good : Bool) (bad : ℕ) → n ≤ n' → n' ≡ n
      → IsReported NoMemory (count n n') (if good then Done else Damaged bad)
  whole_listed true bad rising same = silent NoMemory Done n n' rising (λ e. cc) same
  whole_listed false bad rising same = silent NoMemory (Damaged bad) n n' rising (λ e. cc) same

  listed : (answer : Result Played PlayStop) → ReportsFault lack n n' answer
      → IsReported NoMemory (count n n') (play_status answer)
  listed (Ok played) noted = whole_listed (played.bad == 0) played.bad noted.later (noted.same (λ e. cc))
  listed (Err play.ReadFault) noted = others lack _ _ n n' noted (λ e. cc) (λ e. cc)
  listed (Err play.WriteFault) noted = others lack _ _ n n' noted (λ e. cc) (λ e. cc)
  listed (Err (play.Torn block)) noted = others lack _ _ n n' noted (λ e. cc) (λ e. cc)
  listed (Err play.TooLong) noted = others lack _ _ n n' noted (λ e. cc) (λ e. cc)
  listed (Err (play.PastEnd blocks)) noted = others lack _ _ n n' noted (λ e. cc) (λ e. cc)
  listed (Err (play.Text (fault.Missing seq))) noted = others lack _ _ n n' noted (λ e. cc) (λ e. cc)
  listed (Err (play.Text fault.NoSize)) noted = others lack _ _ n n' noted (λ e. cc) (λ e. cc)
  listed (Err (play.Text (fault.Malformed seq byte))) noted = others lack _ _ n n' noted (λ e. cc) (λ e. cc)
  listed (Err (play.Text fault.NoMemory)) noted = lacked lack n n' noted

  pub reported_authored : (answer : Result (Unit {0}) AuthorStop) (status : Status)
      → status ≡ author_status answer → ReportsFault author.NoMemory n n' answer
      → IsReported NoMemory (count n n') status
  reported_authored answer status is noted =
      subst (λ (s : Status). IsReported NoMemory (count n n') s) (sym is) (authored answer noted)

  pub reported_pressed : (answer : Result (Unit {0}) PressStop) (status : Status)
      → status ≡ press_status answer → ReportsFault press.NoMemory n n' answer
      → IsReported NoMemory (count n n') status
  reported_pressed answer status is noted =
      subst (λ (s : Status). IsReported NoMemory (count n n') s) (sym is) (pressed answer noted)

  pub reported_listed : (answer : Result Played PlayStop) (status : Status)
      → status ≡ play_status answer → ReportsFault lack n n' answer
      → IsReported NoMemory (count n n') status
  reported_listed answer status is noted =
      subst (λ (s : Status). IsReported NoMemory (count n n') s) (sym is) (listed answer noted)
