use Rattle.std.proofs.Common.{refl}
use Rattle.q_channel.specs.QSteps.{q_next, q_give}
use Rattle.q_channel.specs.declared.q_lines.QLines.{QLines}
use Rattle.cdg_io.proofs.Frames.{machine_of}
use Rattle.raw_subcode.specs.Channels.{unit_size}
use Rattle.stream_stages.specs.Watch.{on_units}
use Rattle.stream_stages.proofs.Ends.{ends_stopped, stops_played}
use Rattle.stream_stages.proofs.Reported.{done_reported, stop_reported}
use Rattle.stream_stages.proofs.Checks.{answered_done, checked_stop}
use Rattle.stream_stages.proofs.Playing.{done_at, stop_at}
use Rattle.stream_stages.proofs.QListing.{plays_frames}
use Rattle.stream_stages.proofs.listings.list_frames.Goals as goal

pub returns-in-Ok : goal.returns-in-Ok
returns-in-Ok g c =
    let (taken, p) = c.in-Ok.ensures.pumps in
    let form = c.args.form in
    let read = c.in-Ok.ensures in
    record {
      plays = record {
        taken = taken;
        puts = done_at _ form _ (machine_of (on_units form q_next) (on_units form q_give))
            (λ (t : QLines). t.bad) _ taken (unit_size form) _ _ refl
            (plays_frames form _ c.requires.form refl) p c.saturating_sub.ensures refl;
        stops = tt;
        answer = answered_done (unit_size form) _ (record { blocks = c.saturating_sub.result; bad = 0 }) _
            read.reads.answer;
        faults = done_reported _ _ _ _ read.reads.read_fault.later read.write_fault.later _ _
            read.reads.read_fault.same read.write_fault.same;
        ended = read.reads.ended;
      };
    }

pub returns-in-Err : goal.returns-in-Err
returns-in-Err g c =
    let (taken, p) = c.in-Err.ensures.pumps in
    let form = c.args.form in
    let read = c.in-Err.ensures in
    record {
      plays = record {
        taken = taken;
        puts = stop_at _ form _ (machine_of (on_units form q_next) (on_units form q_give))
            (λ (t : QLines). t.bad) _ taken (unit_size form) _ _ refl c.play_stop.ensures
            (plays_frames form _ c.requires.form refl) p;
        stops = stops_played c.in-Err.stop c.play_stop.result c.play_stop.ensures;
        answer = checked_stop (unit_size form) _ _ _ c.play_stop.ensures read.reads.answer;
        faults =
            stop_reported _ _ _ _ read.reads.read_fault.later read.write_fault.later _ _ c.play_stop.ensures
            read.reads.read_fault.rose read.reads.read_fault.same read.write_fault.rose read.write_fault.same;
        ended = ends_stopped c.in-Err.stop c.play_stop.result _ _ c.play_stop.ensures read.reads.ended;
      };
    }
