-- From the stop of reading a text to the status of a command.
use Rattle.std.proofs.Common.{◌≡◌, ◌<◌, ◌≤◌, ◌+◌, ℕ, List, [], ◌∷◌, length, None, Some, IfSome, IsErrOf, Ok, Err, refl, sym, ap, subst, arith}
use Rattle.cdg_io.specs.Causes.{ReportsFault}
use Rattle.cdg_io.specs.Change.{Bytes, Input, change}
use Rattle.cdg_io.specs.Reads.{EndReportedUnless, is_before_text_end}
use Rattle.cdg_io.specs.Whole.{ConsumesExactly, ReadsWithin, StopsAtFault}
use Rattle.cdg_io.specs.declared.ends.Source.{Ghosts as Source}
use Rattle.cdg_io.specs.declared.whole.ReadStop.{ReadStop}
use Rattle.cdg_io.specs.declared.whole.ReadStop.TheVariants as read
use Rattle.cue_sheet.specs.Answers.{IsCueAnswer}
use Rattle.cue_sheet.specs.CueSheet.{CueSheet}
use Rattle.cue_sheet.specs.Grammar.{read_cue}
use Rattle.cue_sheet.specs.declared.fault.CueStop.{CueStop}
use Rattle.cue_sheet.specs.declared.fault.CueStop.TheVariants as sheet
use Rattle.text_lines.specs.Reading.{read_on}
use Rattle.text_lines.specs.Text.{lines_in, most_text_bytes, without_mark}
use Rattle.cdg_cmd.specs.Authors.{IsScriptStop, IsSheetStop, IsInputStop, NeedsMemory, TakesAtStop}
use Rattle.cdg_cmd.specs.Ends.{StopEnds}
use Rattle.cdg_cmd.specs.Presses.{IsFileStop}
use Rattle.cdg_cmd.specs.Stops.{read_status, sheet_status}
use Rattle.cdg_cmd.specs.declared.status.Which.{Which}
use Rattle.cdg_cmd.specs.declared.status.Which.TheVariants.{First, Second}
use Rattle.cdg_cmd.specs.declared.status.Status.{Status}
use Rattle.cdg_cmd.specs.declared.status.Refusal.TheVariants.{TooLong}
use Rattle.cdg_cmd.specs.declared.status.Status.TheVariants.{Done, Damaged, Usage, Refused, Late, ReadFault, WriteFault, NoMemory}
use Rattle.cdg_cmd.proofs.TextStops.{known_within, taken_at_fault}

-- the facts about an input that was not read completely
pub record IsUnread {S : Type 0} (source : Source S) (before after : S) (stop : ReadStop) : Type 0 where
  pub long : stop ≡ read.TooLong → IfSome (source.left before) (λ text. most_text_bytes < length text)
  pub one_more : stop ≡ read.TooLong
      → ConsumesExactly (source.left before) (source.left after) (most_text_bytes + 1)
  pub lacking : stop ≡ read.NoMemory → ReadsWithin source.left most_text_bytes before after
  pub needed : stop ≡ read.NoMemory → IfSome (source.left before) (λ text. 0 < length text)
  pub cut : stop ≡ read.Failed → StopsAtFault source.left source.faults most_text_bytes before after

-- the same facts, from the clauses of `read_whole`
pub unread : {T S : Type 0} (source : Source S) (before after : S) (stop : ReadStop)
    → (IsErrOf {T = T} (Err stop) read.TooLong
    → IfSome (source.left before) (λ text. most_text_bytes < length text))
    → (IsErrOf {T = T} (Err stop) read.TooLong
    → ConsumesExactly (source.left before) (source.left after) (most_text_bytes + 1))
    → (IsErrOf {T = T} (Err stop) read.NoMemory → ReadsWithin source.left most_text_bytes before after)
    → (IsErrOf {T = T} (Err stop) read.NoMemory
    → IfSome (source.left before) (λ text. 0 < length text))
    → (IsErrOf {T = T} (Err stop) read.Failed
    → StopsAtFault source.left source.faults most_text_bytes before after)
    → IsUnread source before after stop
unread source before after stop long one_more lacking needed cut = record {
  long = λ e. long (ap Err e);
  one_more = λ e. one_more (ap Err e);
  lacking = λ e. lacking (ap Err e);
  needed = λ e. needed (ap Err e);
  cut = λ e. cut (ap Err e);
}

-- a text that is neither empty nor too long needs memory
needs_memory : (left : Bytes) → IfSome left (λ text. 0 < length text)
    → IfSome left (λ text. length text ≤ most_text_bytes) → IfSome left NeedsMemory
needs_memory None some within = tt
needs_memory (Some text) some within = (some, within)

-- a text that needs memory is not too long
is_within : (left : Bytes) → IfSome left NeedsMemory → IfSome left (λ text. length text ≤ most_text_bytes)
is_within None needed = tt
is_within (Some text) needed = needed.1

module _ {S : Type 0} (source : Source S) (before after : S) where
  abbrev Unread : ReadStop → Type 0
  Unread stop = IsUnread source before after stop

  text_at : (which : Which) (stop : ReadStop) → Unread stop
      → IsInputStop which (source.left before) (read_status which stop)
  text_at which read.Failed u = refl
  text_at which read.TooLong u = u.long refl
  text_at which read.NoMemory u =
      needs_memory (source.left before) (u.needed refl)
      (known_within source.left most_text_bytes before after (u.lacking refl))

  pub no_text : (which : Which) (stop : ReadStop) (status : Status) → status ≡ read_status which stop
      → Unread stop
      → IsInputStop which (source.left before) status
  no_text which stop status is u =
      subst (IsInputStop which (source.left before)) (sym is) (text_at which stop u)

  takes : (which : Which) (stop : ReadStop) → Unread stop
      → TakesAtStop (change source.left before after) (read_status which stop)
  takes which read.Failed u =
      taken_at_fault source.left source.faults most_text_bytes (most_text_bytes + 1) before after
      (omega arith)
      (u.cut refl)
  takes which read.TooLong u = u.one_more refl
  takes which read.NoMemory u = (u.lacking refl).end

  pub takes_unread : (which : Which) (stop : ReadStop) (status : Status) → status ≡ read_status which stop
      → Unread stop → TakesAtStop (change source.left before after) status
  takes_unread which stop status is u =
      subst (TakesAtStop (change source.left before after)) (sym is) (takes which stop u)

-- the end of an input that was not read completely
text_ends_at : (which : Which) (stop : ReadStop) (input : Input)
    → EndReportedUnless {T = ℕ} is_before_text_end (Err stop) input.ends.before input.ends.after
    → StopEnds input (read_status which stop)
text_ends_at which read.Failed input reported = reported
text_ends_at which read.TooLong input reported = reported
text_ends_at which read.NoMemory input reported = reported

pub text_ends : (which : Which) (stop : ReadStop) (status : Status) (input : Input)
    → status ≡ read_status which stop
    → EndReportedUnless {T = ℕ} is_before_text_end (Err stop) input.ends.before input.ends.after
    → StopEnds input status
text_ends which stop status input is reported =
    subst (StopEnds input) (sym is) (text_ends_at which stop input reported)

-- Stops at an input of which no text was read: the cue sheet, the script and the file

second_is_not_first : ◌≡◌ {A = Which} Second First → ⊥
second_is_not_first e = (cc)

first_is_not_second : ◌≡◌ {A = Which} First Second → ⊥
first_is_not_second e = (cc)

pub no_sheet : (left : Bytes) (status : Status) → IsInputStop First left status → IsSheetStop left status
no_sheet left (ReadFault First) why = tt
no_sheet left (ReadFault Second) why = absurd (second_is_not_first why)
no_sheet left (Refused TooLong) why = why
no_sheet left (Refused reason) why = absurd why
no_sheet left NoMemory why = why
no_sheet left Done why = absurd why
no_sheet left (Damaged n) why = absurd why
no_sheet left Usage why = absurd why
no_sheet left (Late picture need free) why = absurd why
no_sheet left WriteFault why = absurd why

pub no_script : (left : Bytes) (status : Status) → IsInputStop Second left status → IsScriptStop left status
no_script left (ReadFault First) why = absurd (first_is_not_second why)
no_script left (ReadFault Second) why = tt
no_script left (Refused TooLong) why = why
no_script left (Refused reason) why = absurd why
no_script left NoMemory why = is_within left why
no_script left Done why = absurd why
no_script left (Damaged n) why = absurd why
no_script left Usage why = absurd why
no_script left (Late picture need free) why = absurd why
no_script left WriteFault why = absurd why

pub no_file : (left : Bytes) (status : Status) → IsInputStop Second left status → IsFileStop left status
no_file left (ReadFault First) why = absurd (first_is_not_second why)
no_file left (ReadFault Second) why = tt
no_file left (Refused TooLong) why = why
no_file left (Refused reason) why = absurd why
no_file left NoMemory why = why
no_file left Done why = absurd why
no_file left (Damaged n) why = absurd why
no_file left Usage why = absurd why
no_file left (Late picture need free) why = absurd why
no_file left WriteFault why = absurd why

-- A text that is read as a sheet is not empty, so it needs memory.

no_empty_sheet : (sheet : CueSheet) → read_cue [] ≡ Ok sheet → ⊥
unfolding read_on lines_in without_mark
no_empty_sheet sheet reads = (cc)

sheet_is_some : (text : List ℕ) (sheet : CueSheet) → read_cue text ≡ Ok sheet → 0 < length text
sheet_is_some [] sheet reads = absurd (no_empty_sheet sheet reads)
sheet_is_some (b ∷ rest) sheet reads = omega arith

-- the text that was read is the text of the input, if its bytes are known
of_held : (left : Bytes) (text : List ℕ) (P : List ℕ → Type 0) → IfSome left (λ all. text ≡ all) → P text
    → IfSome left P
of_held None text P held holds = tt
of_held (Some all) text P held holds = subst P held holds

module _ (left : Bytes) (text : List ℕ) (within : length text ≤ most_text_bytes)
    (held : IfSome left (λ all. text ≡ all)) where
  sheet_stop : (stop : CueStop) → IsCueAnswer (read_cue text) (Err stop)
      → IsSheetStop left (sheet_status stop)
  sheet_stop (sheet.Fault line why) answer =
      of_held left text (λ all. (length all ≤ most_text_bytes) × (read_cue all ≡ Err (line, why))) held
      (within, answer)
  sheet_stop sheet.NoMemory answer =
      of_held left text NeedsMemory held (sheet_is_some text answer.0 answer.1, within)

  -- the reason why a text that was read gives no sheet
  pub refused_sheet : (stop : CueStop) (status : Status) → status ≡ sheet_status stop
      → IsCueAnswer (read_cue text) (Err stop) → IsSheetStop left status
  refused_sheet stop status is answer = subst (IsSheetStop left) (sym is) (sheet_stop stop answer)

-- the same status ends the outer call
pub same_stop : {A B : Type 0} (fault status : Status) (f f' : ℕ)
    → ReportsFault {T = A} fault f f' (Err status)
    → ReportsFault {T = B} fault f f' (Err status)
same_stop fault status f f' reported = record {
  later = reported.later;
  rose = λ e. reported.rose (ap Err (cc));
  same = λ other. reported.same (λ e. other (ap Err (cc)));
}

-- The fault of a read is reported as the fault of its input.

read_fault : {A B : Type 0} (which : Which) (stop : ReadStop) (f f' : ℕ)
    → ReportsFault {T = A} read.Failed f f' (Err stop)
    → ReportsFault {T = B} (ReadFault which) f f' (Err (read_status which stop))
read_fault which read.Failed f f' reported =
    record { later = reported.later; rose = λ e. reported.rose refl; same = λ other. absurd (other refl) }
read_fault which read.TooLong f f' reported =
    record { later = reported.later; rose = λ e. absurd (cc); same = λ other. reported.same (λ e. cc) }
read_fault which read.NoMemory f f' reported =
    record { later = reported.later; rose = λ e. absurd (cc); same = λ other. reported.same (λ e. cc) }

pub unread_fault : {A B : Type 0} (which : Which) (stop : ReadStop) (status : Status) (f f' : ℕ)
    → status ≡ read_status which stop → ReportsFault {T = A} read.Failed f f' (Err stop)
    → ReportsFault {T = B} (ReadFault which) f f' (Err status)
unread_fault {A} {B} which stop status f f' is reported =
    subst (λ (s : Status). ReportsFault {T = B} (ReadFault which) f f' (Err s)) (sym is)
    (read_fault which stop f f' reported)
