-- A stage on the blocks of a whole input, and the text that the call then writes.
use Rattle.std.specs.Prelude.{◌≡◌, ◌≢◌, ℕ, ◌+◌, ◌-◌, ◌*◌, ◌≤◌, nat_lt, if◌then◌else◌, List, [], length, map, take, Option, Result, Ok, Err, IfOk}
use Rattle.std.specs.Io.KnownBytes.{Appends, Consumes, IsAtEnd}
use Rattle.cdg_io.specs.Change.{Bytes, Change, Fed}
use Rattle.cdg_io.specs.Moves.{AppendsPrefix}
use Rattle.cdg_io.specs.Pump.{units_of}
use Rattle.cdg_io.specs.Run.{run_state}
use Rattle.cdg_io.specs.declared.pumping.Pumped.{Pumped}
use Rattle.cdg_io.specs.declared.pumping.PumpStop.{PumpStop}
use Rattle.cdg_io.specs.declared.pumping.PumpStop.TheVariants as pump_stop
use Rattle.rw_interleave.specs.Interleave.{whole_packs}
use Rattle.raw_subcode.specs.Channels.{unit_size, block_of, blocks_of, program_symbols}
use Rattle.raw_subcode.specs.declared.form.Form.{Form}
use Rattle.rw_interleave.specs.Stream.{IsRecovered, bad_count}
use Rattle.cdg_instructions.specs.declared.instr.Instr.{Instr}
use Rattle.cdg_screen.specs.Standing.{Standing, blank, standing_after}
use Rattle.cdtext_packs.specs.Reading.{read_texts}
use Rattle.cdtext_packs.specs.Texts.{Texts}
use Rattle.cdtext_packs.specs.TextLines.{counted_lines}
use Rattle.cdtext_packs.specs.declared.lead_in_texts.LeadInTexts.{LeadInTexts}
use Rattle.raw_subcode.specs.Sizes.{most_units}
use Rattle.stream_stages.specs.Calls.{IsEarly, blocks_played}
use Rattle.stream_stages.specs.Screen.{AreShown, EndsBefore, Moment}
use Rattle.stream_stages.specs.TextListing.{IsTextFault}
use Rattle.stream_stages.specs.declared.played.Played.{Played}
use Rattle.stream_stages.specs.declared.played.PlayStop.{PlayStop}
use Rattle.stream_stages.specs.declared.played.PlayStop.TheVariants.{ReadFault, WriteFault, Torn, TooLong, PastEnd, Text}

-- makes a step for units from a step for blocks: it uses the block of a unit
abbrev pub on_units : {S A : Type 0} → Form → (S → List ℕ → A) → S → List ℕ → A
on_units form step s unit = step s (block_of form unit)

-- These bytes were consumed, and the stage is in its state after the blocks of their whole units. If nothing failed,
-- the bytes are the whole input, in whole units.
pub record Watches {S : Type 0} (form : Form) (next : S → List ℕ → S) (fed : Fed S)
    (result : Result Pumped PumpStop) (taken : List ℕ) : Type 0 where
  pub taken_from : Consumes fed.left.before fed.left.after taken
  pub within : length taken ≤ most_units * unit_size form + 1
  pub state : fed.state.after ≡ run_state next fed.state.before (blocks_of form taken)
  pub done : IfOk result (λ p. IsAtEnd fed.left.after × (length taken ≡ p.units * unit_size form)
      × (p.units ≤ most_units) × (fed.state.after
      ≡ run_state next fed.state.before (map (block_of form) (units_of (unit_size form) p.units taken))))
  pub torn : (unit : ℕ) → result ≡ Err (pump_stop.Torn unit) → IsAtEnd fed.left.after
  pub no_write : result ≢ Err pump_stop.WriteFault

-- the stop of a player for the stop of a pump
abbrev pub play_stop : PumpStop → PlayStop
play_stop pump_stop.ReadFault = ReadFault
play_stop pump_stop.WriteFault = WriteFault
play_stop (pump_stop.Torn unit) = Torn unit
play_stop pump_stop.TooLong = TooLong

-- the result of a player for the result of a pump, after `bad` bad words
abbrev pub played_of : ℕ → ℕ → Result Pumped PumpStop → Result Played PlayStop
played_of lead_in bad (Ok pumped) = Ok (record { blocks = pumped.units - lead_in; bad = bad })
played_of lead_in bad (Err stop) = Err (play_stop stop)

-- Drawing these bytes up to a moment results in this screen, with this number of bad packs.
pub record IsViewed (at : Moment) (bytes : List ℕ) (now : Standing) (bad : ℕ) : Type 0 where
  pub found : List (Option (List ℕ))
  pub recovered : IsRecovered at.form (program_symbols at.form bytes at.lead_in) found
  pub instrs : List Instr
  pub shown : AreShown found at.time instrs
  pub stands : now ≡ standing_after blank instrs
  pub bad_is : bad ≡ bad_count (take (whole_packs at.time) found)

-- A whole input was drawn up to a moment, and nothing was written.
pub record Views (at : Moment) (left : Change Bytes) (now : Standing) (result : Result Played PlayStop)
    (taken : List ℕ) : Type 0 where
  pub taken_from : Consumes left.before left.after taken
  pub within : length taken ≤ most_units * unit_size at.form + 1
  pub done : IfOk result (λ played. IsAtEnd left.after
      × (played.blocks ≡ blocks_played at.form at.lead_in taken)
      × (at.time ≤ played.blocks) × IsViewed at taken now played.bad)
  pub ended : (stop : PlayStop) → result ≡ Err stop → ¬ (IsEarly stop) → IsAtEnd left.after
  pub past_end : (blocks : ℕ) → result ≡ Err (PastEnd blocks) → EndsBefore at taken blocks
  pub no_write : result ≢ Err WriteFault

-- the result after this number of program blocks
abbrev pub viewed : ℕ → ℕ → ℕ → Result Played PlayStop
viewed blocks time bad = if nat_lt blocks time then Err (PastEnd blocks) else Ok (record {
  blocks = blocks;
  bad = bad;
})

-- The call wrote the texts of the packs that were read, or stopped for this reason.
abbrev pub WritesTexts : LeadInTexts → ℕ → Option (List ℕ) → Option (List ℕ) → Result Played PlayStop → Type 0
WritesTexts s blocks held held' (Ok played) =
    (played.blocks ≡ blocks) × (played.bad ≡ 0)
    × ((texts : Texts) × (read_texts s.reader ≡ Ok texts)
    × Appends held held' (counted_lines texts s.good s.bad s.other))
WritesTexts s blocks held held' (Err WriteFault) = (texts : Texts) × (read_texts s.reader ≡ Ok texts)
    × AppendsPrefix held held' (counted_lines texts s.good s.bad s.other)
WritesTexts s blocks held held' (Err (Text fault)) = IsTextFault fault (read_texts s.reader)
    × Appends held held' []
WritesTexts s blocks held held' (Err ReadFault) = ⊥
WritesTexts s blocks held held' (Err (Torn block)) = ⊥
WritesTexts s blocks held held' (Err TooLong) = ⊥
WritesTexts s blocks held held' (Err (PastEnd past)) = ⊥
