-- The input, the output and the result of a call that plays a whole stream.
use Rattle.std.specs.Prelude.{◌≡◌, ◌≢◌, ℕ, Bool, List, length, Result, IfErr, IfSome}
use Rattle.cdg_io.specs.Change.{Passed, passed}
use Rattle.cdg_io.specs.Reads.{EndReportedUnless}
use Rattle.cdg_io.specs.declared.ends.Sink.{Ghosts as Sink}
use Rattle.cdg_io.specs.declared.ends.Source.{Ghosts as Source}
use Rattle.cdg_io.specs.Streams.{Streams, WritesAtEnd}
use Rattle.cdg_screen.specs.Standing.{Standing}
use Rattle.q_channel.specs.QList.{IsQListed}
use Rattle.raw_subcode.specs.Channels.{unit_size}
use Rattle.raw_subcode.specs.declared.form.Form.{Form}
use Rattle.stream_stages.specs.Calls.{IsAnsweredBy, IsListStop, IsMomentStop, IsStreamStop, at_end, in_turn, is_early, is_early_in_turn}
use Rattle.stream_stages.specs.Check.{IsCheckListed}
use Rattle.stream_stages.specs.Convert.{Converts}
use Rattle.stream_stages.specs.Faults.{ReportsStops}
use Rattle.stream_stages.specs.Screen.{IsShownBy, Moment, Shows}
use Rattle.stream_stages.specs.TextListing.{IsListedBy, ListsTexts}
use Rattle.stream_stages.specs.declared.played.Played.{Played}
use Rattle.stream_stages.specs.declared.played.PlayStop.{PlayStop}
use Rattle.stream_stages.specs.declared.played.PlayStop.TheVariants.{WriteFault}

-- What differs between calls: the output for the consumed bytes, the possible stops, the stops that come before the end
-- of the input, and the result for a whole input if nothing fails.
pub record StreamCall : Type 1 where
  pub puts : Passed → Result Played PlayStop → List ℕ → Type 0
  pub may_stop : PlayStop → Type 0
  pub is_early : PlayStop → Bool
  pub answers : Result Played PlayStop → List ℕ → Type 0

-- a call that shows no moment and lists no texts: the length of its input decides its result
abbrev pub call_by_length : Form → (PlayStop → Bool) → (Passed → Result Played PlayStop → List ℕ → Type 0)
    → StreamCall
call_by_length form is_early puts = record {
  puts = puts;
  may_stop = IsStreamStop;
  is_early = is_early;
  answers = λ result all. IsAnsweredBy result (unit_size form) (length all);
}

-- the call that writes the packs of a stream while it reads
abbrev pub conversion : Form → ℕ → StreamCall
conversion form lead_in = call_by_length form is_early_in_turn (Converts form lead_in)

-- the call that writes the lines of the Q channel while it reads
abbrev pub frame_listing : Form → ℕ → StreamCall
frame_listing form lead_in =
    call_by_length form is_early_in_turn (Streams (in_turn (IsQListed form) form lead_in))

-- the call that writes the counts after it read everything
abbrev pub checking : Form → ℕ → StreamCall
checking form lead_in =
    call_by_length form is_early (WritesAtEnd (at_end (IsCheckListed form lead_in) form lead_in))

-- the call that writes the screen at a moment after it read everything; `write` makes the text from the screen
abbrev pub showing : (Standing → List ℕ) → Moment → StreamCall
showing write at = record {
  puts = Shows write at;
  may_stop = IsMomentStop;
  is_early = is_early;
  answers = λ result all. IsShownBy result at.lead_in at.time (unit_size at.form) (length all);
}

-- the call that writes the texts of the lead-in after it read everything
abbrev pub text_listing : Form → ℕ → StreamCall
text_listing form lead_in = record {
  puts = ListsTexts form lead_in;
  may_stop = IsListStop;
  is_early = is_early;
  answers = λ result all. IsListedBy result form lead_in all;
}

-- A call played a stream from an input to an output. `before` and `after` are their values.
pub record Plays {S K : Type 0} (call : StreamCall) (source : Source S) (sink : Sink K)
    (before after : S × K) (result : Result Played PlayStop) : Type 0 where
  pub taken : List ℕ
  pub puts : call.puts (passed source.left sink.held before after) result taken
  -- a stop is one of the possible stops, also if the input does not reveal its bytes
  pub stops : IfErr result call.may_stop
  -- if nothing failed, the result is that of the whole input
  pub answer : IfSome (source.left before.0) (λ all. call.answers result all)
  pub faults : ReportsStops (source.faults before.0) (source.faults after.0) (sink.faults before.1)
      (sink.faults after.1) result
  -- the end of the input was recorded once, unless the call stopped before it
  pub ended : EndReportedUnless call.is_early result (source.ends before.0) (source.ends after.0)

-- If a call stops for any reason other than a failed write, the output is unchanged.
abbrev pub LeavesUnwritten : {K : Type 0} → K → K → Result Played PlayStop → Type 0
LeavesUnwritten before after result = IfErr result (λ stop. stop ≢ WriteFault → after ≡ before)

-- A call played a stream, and wrote only after it read everything. If it wrote nothing, the output is unchanged.
pub record PlaysThenWrites {S K : Type 0} (call : StreamCall) (source : Source S) (sink : Sink K)
    (before after : S × K) (result : Result Played PlayStop) : Type 0 where
  pub plays : Plays call source sink before after result
  pub untouched : LeavesUnwritten before.1 after.1 result
