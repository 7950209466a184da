-- From the run of a pump to a conversion.
use Rattle.std.proofs.Common.{◌≡◌, ℕ, ◌-◌, List, refl, sym, subst, Result, Ok, Err}
use Rattle.cdg_io.specs.Causes.{ReportsFault}
use Rattle.cdg_io.specs.Change.{moved}
use Rattle.cdg_io.specs.Pump.{Pumps}
use Rattle.cdg_io.specs.Reads.{ReadsUnits}
use Rattle.cdg_io.specs.declared.ends.Sink.{Ghosts as Sink}
use Rattle.cdg_io.specs.declared.ends.Source.{Ghosts as Source}
use Rattle.cdg_io.specs.declared.pumping.Pumped.{Pumped}
use Rattle.cdg_io.specs.declared.pumping.PumpStop.{PumpStop}
use Rattle.cdg_io.specs.declared.pumping.PumpStop.TheVariants as pump_stop
use Rattle.cdg_io.proofs.Frames.{machine_of}
use Rattle.raw_subcode.specs.Channels.{unit_size}
use Rattle.raw_subcode.specs.Sizes.{most_units}
use Rattle.raw_subcode.specs.declared.form.Form.{Form}
use Rattle.stream_stages.specs.Plays.{Plays, conversion}
use Rattle.stream_stages.specs.Steps.{fresh_words, packs_next, packs_give}
use Rattle.stream_stages.specs.Watch.{on_units, played_of}
use Rattle.stream_stages.specs.declared.block_packs.BlockPacks.{BlockPacks}
use Rattle.stream_stages.specs.declared.played.Played.{Played}
use Rattle.stream_stages.specs.declared.played.PlayStop.{PlayStop}
use Rattle.stream_stages.proofs.Checks.{answered_done, checked_stop}
use Rattle.stream_stages.proofs.Ends.{ends_stopped, stops_played}
use Rattle.stream_stages.proofs.Playing.{done_at, stop_at}
use Rattle.stream_stages.proofs.PlayRuns.{plays_stream}
use Rattle.stream_stages.proofs.Reported.{done_reported, stop_reported}

module _ {S K : Type 0} (source : Source S) (sink : Sink K) (form : Form) (lead_in : ℕ) (old new : BlockPacks)
    (before after : S × K) (words : old.words ≡ fresh_words form lead_in) (none : old.bad ≡ 0) where
  abbrev Runs : Result Pumped PumpStop → List ℕ → Type 0
  Runs answer taken =
      Pumps (record { size = unit_size form; limit = most_units })
      (record { next = on_units form packs_next; gives = on_units form packs_give })
      (moved source.left sink.held (before.0, old, before.1) (after.0, new, after.1)) answer taken

  converted_at : (answer : Result Pumped PumpStop) (taken : List ℕ) → Runs answer taken
      → ReadsUnits source (unit_size form) most_units before.0 after.0 answer
      → ReportsFault pump_stop.WriteFault (sink.faults before.1) (sink.faults after.1) answer
      → Plays (conversion form lead_in) source sink before after (played_of lead_in new.bad answer)
  converted_at (Ok pumped) taken p read write =
      let plays = plays_stream form lead_in old words none in
      record {
        taken = taken;
        puts = done_at _ form _ (machine_of (on_units form packs_next) (on_units form packs_give))
            (λ (t : BlockPacks). t.bad) _ taken (unit_size form) _ _ refl plays p refl refl;
        stops = tt;
        answer = answered_done (unit_size form) pumped
            (record { blocks = pumped.units - lead_in; bad = new.bad }) _ read.answer;
        faults = done_reported _ _ _ _ read.read_fault.later write.later _ _ read.read_fault.same write.same;
        ended = read.ended;
      }
  converted_at (Err stop) taken p read write =
      let plays = plays_stream form lead_in old words none in
      record {
        taken = taken;
        puts = stop_at _ form _ (machine_of (on_units form packs_next) (on_units form packs_give))
            (λ (t : BlockPacks). t.bad) _ taken (unit_size form) _ _ refl refl plays p;
        stops = stops_played stop _ refl;
        answer = checked_stop (unit_size form) _ _ _ refl read.answer;
        faults = stop_reported _ _ _ _ read.read_fault.later write.later _ _ refl read.read_fault.rose
            read.read_fault.same write.rose write.same;
        ended = ends_stopped stop _ _ _ refl read.ended;
      }

  pub converted : (answer : Result Pumped PumpStop) (result : Result Played PlayStop) (size : ℕ)
      (taken : List ℕ)
      → result ≡ played_of lead_in new.bad answer → unit_size form ≡ size → Runs answer taken
      → ReadsUnits source size most_units before.0 after.0 answer
      → ReportsFault pump_stop.WriteFault (sink.faults before.1) (sink.faults after.1) answer
      → Plays (conversion form lead_in) source sink before after result
  converted answer result size taken is sized p read write =
      subst (λ (r : Result Played PlayStop). Plays (conversion form lead_in) source sink before after r)
      (sym is)
      (converted_at answer taken p
      (subst (λ n. ReadsUnits source n most_units before.0 after.0 answer) (sym sized) read) write)
