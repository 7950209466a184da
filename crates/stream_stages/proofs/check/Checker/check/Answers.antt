use Rattle.std.proofs.Common.{refl}
use Rattle.raw_subcode.specs.Channels.{unit_size}
use Rattle.stream_stages.proofs.Ends.{ends_counts, ends_unread, stops_counts, stops_played}
use Rattle.stream_stages.proofs.Reported.{counts_reported, unread}
use Rattle.stream_stages.proofs.Checks.{at_end_stop, checks_done, checked_done, checked_stop}
use Rattle.stream_stages.proofs.check.Checker.check.Goals as goal

pub returns-in-Ok : goal.returns-in-Ok
returns-in-Ok g c =
    let (taken, w) = c.in-Ok.ensures.watches in
    let cause = c.write_counts.ensures.cause in
    record {
      plays = record {
        plays = record {
          taken = taken;
          puts = checks_done c.args.form c.args.lead_in _ _ _ _ c.begin_check.new.self.checks.blocks
              c.watch.new.stages.blocks taken _ _ c.begin_check.ensures w c.write_counts.ensures.ok
              c.write_counts.ensures.part;
          stops = stops_counts c.write_counts.result _ c.write_counts.ensures.part;
          answer = checked_done (unit_size c.args.form) _ _ _ _ c.write_counts.ensures.part
              c.in-Ok.ensures.reads.answer;
          faults = counts_reported _ _ _ _ c.in-Ok.ensures.reads.read_fault.later cause.later c.in-Ok.pumped
              c.write_counts.result _
              c.in-Ok.ensures.reads.read_fault.same cause c.write_counts.ensures.part;
          ended =
              ends_counts c.write_counts.result _ c.write_counts.ensures.part _ _ c.in-Ok.ensures.reads.ended;
        };
        untouched = c.write_counts.ensures.untouched;
      };
    }

pub returns-in-Err : goal.returns-in-Err
returns-in-Err g c =
    let (taken, w) = c.in-Err.ensures.watches in
    record {
      plays = record {
        plays = record {
          taken = taken;
          puts = at_end_stop _ c.args.form c.args.lead_in _ _ _ _ _ c.begin_check.new.self.checks.blocks
              c.watch.new.stages.blocks taken _ _ refl w c.play_stop.ensures;
          stops = stops_played c.in-Err.stop c.play_stop.result c.play_stop.ensures;
          answer =
              checked_stop (unit_size c.args.form) _ _ _ c.play_stop.ensures c.in-Err.ensures.reads.answer;
          faults = unread _ _ _ c.in-Err.ensures.reads.read_fault.later _ _ c.play_stop.ensures w.no_write
              c.in-Err.ensures.reads.read_fault.rose c.in-Err.ensures.reads.read_fault.same;
          ended = ends_unread c.in-Err.stop c.play_stop.result _ _ c.play_stop.ensures w.no_write
              c.in-Err.ensures.reads.ended;
        };
        untouched = λ other. refl;
      };
    }
