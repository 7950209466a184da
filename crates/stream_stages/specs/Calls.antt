-- What a call of a player reads, writes and returns.
--
-- `writes bytes text bad` relates input bytes (whole units, and perhaps a part of a unit) to the text that is written
-- for the units, and to the number of bad words or bad frames.
use Rattle.std.specs.Prelude.{◌≡◌, ◌≢◌, ℕ, ◌-◌, ◌*◌, ◌/◌, ◌%◌, ◌<◌, ◌≤◌, ⊤, Bool, true, false, IsTrue, List, length, Result, Ok, Err}
use Rattle.cdg_io.specs.Causes.{Count}
use Rattle.cdg_io.specs.Reads.{EndReportedUnless}
use Rattle.cdg_io.specs.Streams.{Reading, WholeReading}
use Rattle.raw_subcode.specs.Channels.{unit_size}
use Rattle.raw_subcode.specs.Sizes.{most_units}
use Rattle.raw_subcode.specs.declared.form.Form.{Form}
use Rattle.stream_stages.specs.declared.played.Played.{Played}
use Rattle.stream_stages.specs.declared.played.PlayStop.{PlayStop}
use Rattle.stream_stages.specs.declared.played.PlayStop.TheVariants.{ReadFault, WriteFault, Torn, TooLong, PastEnd, Text}

-- The result counts `count bytes` blocks. `writes` relates the bytes to the written text and to the number of bad entries.
pub record IsPlayed (writes : List ℕ → List ℕ → ℕ → Type 0) (count : List ℕ → ℕ) (bytes : List ℕ)
    (played : Played) (text : List ℕ) : Type 0 where
  pub blocks : played.blocks ≡ count bytes
  pub written : writes bytes text played.bad

-- the number of program blocks in these bytes
abbrev pub blocks_played : Form → ℕ → List ℕ → ℕ
blocks_played form lead_in bytes = length bytes / unit_size form - lead_in

-- the reading of a call that writes while it reads
abbrev pub in_turn : (List ℕ → List ℕ → ℕ → Type 0) → Form → ℕ → Reading Played PlayStop
in_turn writes form lead_in = record {
  cut = record { size = unit_size form; limit = most_units };
  torn_at = Torn;
  write_fault = WriteFault;
  gives = IsPlayed writes (blocks_played form lead_in);
}

-- whether a call that writes only after it read everything stops before the end of the input
abbrev pub is_early : PlayStop → Bool
is_early ReadFault = true
is_early TooLong = true
is_early stop = false

-- whether a call that writes while it reads stops before the end of the input
abbrev pub is_early_in_turn : PlayStop → Bool
is_early_in_turn WriteFault = true
is_early_in_turn stop = is_early stop

-- The stop comes before the end of the input.
abbrev pub IsEarly : PlayStop → Type 0
IsEarly stop = IsTrue (is_early stop)

-- the reading of a call that writes only after it read everything
abbrev pub at_end : (List ℕ → List ℕ → ℕ → Type 0) → Form → ℕ → WholeReading Played PlayStop
at_end writes form lead_in = record {
  cut = record { size = unit_size form; limit = most_units };
  is_early = IsEarly;
  write_fault = WriteFault;
  gives = IsPlayed writes (blocks_played form lead_in);
}

-- A call that shows no moment and lists no texts can have this stop.
abbrev pub IsStreamStop : PlayStop → Type 0
IsStreamStop ReadFault = ⊤
IsStreamStop WriteFault = ⊤
IsStreamStop (Torn block) = ⊤
IsStreamStop TooLong = ⊤
IsStreamStop (PastEnd blocks) = ⊥
IsStreamStop (Text fault) = ⊥

-- A call that shows a moment can have this stop.
abbrev pub IsMomentStop : PlayStop → Type 0
IsMomentStop (PastEnd blocks) = ⊤
IsMomentStop stop = IsStreamStop stop

-- A call that lists texts can have this stop.
abbrev pub IsListStop : PlayStop → Type 0
IsListStop (Text fault) = ⊤
IsListStop stop = IsStreamStop stop

-- A call that writes while it reads recorded the end of its input once, unless it stopped before the end.
abbrev pub EndInTurn : Result Played PlayStop → Count → Count → Type 0
EndInTurn = EndReportedUnless is_early_in_turn

-- A call that writes only after it read everything recorded the end of its input once, unless it stopped before the end.
abbrev pub EndFirst : Result Played PlayStop → Count → Count → Type 0
EndFirst = EndReportedUnless is_early

-- This is the result for an input of `len` bytes, in units of `size` bytes, if no read and no write fails.
abbrev pub IsAnsweredBy : Result Played PlayStop → ℕ → ℕ → Type 0
IsAnsweredBy (Ok played) size len = (len ≤ most_units * size) × (len % size ≡ 0)
IsAnsweredBy (Err (Torn block)) size len = (len ≤ most_units * size) × (len % size ≢ 0) × (block ≡ len / size)
IsAnsweredBy (Err TooLong) size len = most_units * size < len
IsAnsweredBy (Err ReadFault) size len = ⊤
IsAnsweredBy (Err WriteFault) size len = ⊤
IsAnsweredBy (Err (PastEnd blocks)) size len = ⊥
IsAnsweredBy (Err (Text fault)) size len = ⊥
