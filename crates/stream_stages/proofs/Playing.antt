-- From the run of a pump to a call of a player that writes while it reads.
use Rattle.std.proofs.Common.{◌≡◌, ℕ, ◌-◌, ◌/◌, ◌≤◌, ◌<◌, List, length, refl, sym, ap, ◌∙◌, subst, arith, Result, Ok, Err}
use Rattle.cdg_io.specs.Change.{Moved}
use Rattle.cdg_io.specs.Run.{run_state}
use Rattle.cdg_io.specs.Pump.{Machine, Pumps, given, units_of, whole}
use Rattle.cdg_io.specs.Streams.{Streams}
use Rattle.cdg_io.specs.declared.pumping.Pumped.{Pumped}
use Rattle.cdg_io.specs.declared.pumping.PumpStop.{PumpStop}
use Rattle.cdg_io.specs.declared.pumping.PumpStop.TheVariants as pump_stop
use Rattle.cdg_io.proofs.Units.{whole_within}
use Rattle.cdg_io.proofs.Streaming.{IsWhole, IsReported, bytes_of, streams_done, streams_stop}
use Rattle.raw_subcode.specs.Channels.{unit_size}
use Rattle.raw_subcode.specs.Sizes.{most_units}
use Rattle.stream_stages.specs.Calls.{IsPlayed, blocks_played, in_turn}
use Rattle.stream_stages.specs.Watch.{play_stop}
use Rattle.raw_subcode.specs.declared.form.Form.{Form}
use Rattle.raw_subcode.specs.declared.form.Form.TheVariants.{Raw, Sector, Cooked}
use Rattle.stream_stages.specs.declared.played.Played.{Played}
use Rattle.stream_stages.specs.declared.played.PlayStop.{PlayStop}
use Rattle.stream_stages.specs.declared.played.PlayStop.TheVariants.{WriteFault, Torn}

-- From this state, the stage writes the text for the units of any bytes, and counts the bad words.
pub record Plays {S : Type 0} (writes : List ℕ → List ℕ → ℕ → Type 0) (form : Form) (machine : Machine S)
    (s : S) (bad_of : S → ℕ) : Type 0 where
  pub says : (bytes : List ℕ) (n : ℕ) → n ≤ most_units → IsWhole (unit_size form) n bytes
      → writes bytes (given (unit_size form) machine s bytes n)
      (bad_of (run_state machine.next s (units_of (unit_size form) n bytes)))

-- a unit has more than one byte
pub unit_some : (form : Form) → 1 < unit_size form
unit_some Raw = omega arith
unit_some Sector = omega arith
unit_some Cooked = omega arith

-- the number of units
pub units_in : (form : Form) (n : ℕ) (bytes : List ℕ) → IsWhole (unit_size form) n bytes
    → length bytes / unit_size form ≡ n
units_in Raw n bytes whole = omega (arith, whole.fits, whole.rest)
units_in Sector n bytes whole = omega (arith, whole.fits, whole.rest)
units_in Cooked n bytes whole = omega (arith, whole.fits, whole.rest)

pub reported : (stop : PumpStop) → IsReported Torn WriteFault stop (play_stop stop)
reported pump_stop.ReadFault = record { fault_kept = λ e. cc; fault_only = λ e. cc; torn_only = λ n e. cc }
reported pump_stop.WriteFault =
    record { fault_kept = λ e. refl; fault_only = λ e. refl; torn_only = λ n e. cc }
reported (pump_stop.Torn unit) = record { fault_kept = λ e. cc; fault_only = λ e. cc; torn_only = λ n e. cc }
reported pump_stop.TooLong = record { fault_kept = λ e. cc; fault_only = λ e. cc; torn_only = λ n e. cc }

module _ {S : Type 0} (writes : List ℕ → List ℕ → ℕ → Type 0) (form : Form) (lead_in : ℕ)
    (machine : Machine S) (bad_of : S → ℕ) (moved : Moved S) (taken : List ℕ) where
  -- the size of a unit and the answer are known by equations
  abbrev RunsAt : ℕ → Result Pumped PumpStop → Type 0
  RunsAt size result = Pumps (record { size = size; limit = most_units }) machine moved result taken

  abbrev Calls : Result Played PlayStop → Type 0
  Calls result = Streams (in_turn writes form lead_in) (bytes_of moved) result taken

  says_text : Plays writes form machine moved.state.before bad_of → (bytes : List ℕ) (n : ℕ) → n ≤ most_units
      → IsWhole (unit_size form) n bytes
      → (played : Played)
      × IsPlayed writes (blocks_played form lead_in) bytes played
      (given (unit_size form) machine moved.state.before bytes n)
  says_text plays bytes n few whole_units = (
    record {
      blocks = length bytes / unit_size form - lead_in;
      bad = bad_of (run_state machine.next moved.state.before (units_of (unit_size form) n bytes));
    },
    record { blocks = refl; written = plays.says bytes n few whole_units },
  )

  plays_done : (pumped : Pumped) (played : Played) → Plays writes form machine moved.state.before bad_of
      → RunsAt (unit_size form) (Ok pumped) → played.blocks ≡ pumped.units - lead_in
      → played.bad ≡ bad_of moved.state.after
      → Calls (Ok played)
  plays_done pumped played plays p blocks bad =
      streams_done (in_turn writes form lead_in) machine moved taken pumped played (unit_some form)
      (says_text plays) p (λ whole_units.
      let count : whole (unit_size form) most_units (length taken) ≡ pumped.units =
      ap (whole (unit_size form) most_units) (p.done.1 ∙ omega arith)
      ∙ whole_within (unit_size form) most_units pumped.units 0 (omega (arith, unit_some form)) p.done.2 in
      let counted : played.bad
      ≡ bad_of (run_state machine.next moved.state.before (units_of (unit_size form) pumped.units taken)) =
      bad
      ∙ ap bad_of (p.state
      ∙ ap (λ k. run_state machine.next moved.state.before (units_of (unit_size form) k taken)) count) in
      record {
        blocks = blocks ∙ ap (λ n. n - lead_in) (sym (units_in form pumped.units taken whole_units));
        written =
            subst (writes taken (given (unit_size form) machine moved.state.before taken pumped.units))
            (sym counted) (plays.says taken pumped.units p.done.2 whole_units);
      })

  plays_stop : (stop : PumpStop) → Plays writes form machine moved.state.before bad_of
      → RunsAt (unit_size form) (Err stop)
      → Calls (Err (play_stop stop))
  plays_stop stop plays p =
      streams_stop (in_turn writes form lead_in) machine moved taken stop (play_stop stop) (unit_some form)
      (reported stop) (says_text plays) p

  pub done_at : (size : ℕ) (pumped : Pumped) (played : Played) → unit_size form ≡ size
      → Plays writes form machine moved.state.before bad_of → RunsAt size (Ok pumped)
      → played.blocks ≡ pumped.units - lead_in → played.bad ≡ bad_of moved.state.after
      → Calls (Ok played)
  done_at size pumped played e plays p blocks bad =
      plays_done pumped played plays (subst (λ n. RunsAt n (Ok pumped)) (sym e) p) blocks bad

  pub stop_at : (size : ℕ) (stop : PumpStop) (answer : PlayStop) → unit_size form ≡ size
      → answer ≡ play_stop stop → Plays writes form machine moved.state.before bad_of → RunsAt size (Err stop)
      → Calls (Err answer)
  stop_at size stop answer e answer_is plays p =
      subst (λ (t : PlayStop). Calls (Err t)) (sym answer_is)
      (plays_stop stop plays (subst (λ n. RunsAt n (Err stop)) (sym e) p))
