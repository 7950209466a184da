use Rattle.cdg_cmd.proofs.Played.{never_memory, reported_one}
use Rattle.cdg_cmd.proofs.streams.run_q.Goals as goal

pub returns-clause-does : goal.returns-clause-does
returns-clause-does g c =
    let played = c.list_frames.ensures.plays in
    record {
      answer = c.list_frames.result;
      status_is = c.play_status.ensures;
      taken = played.taken;
      did = played.puts;
      exactly = (played.stops, played.answer);
    }

pub returns-clause-memory : goal.returns-clause-memory
returns-clause-memory g c =
    never_memory c.list_frames.result _ c.play_status.ensures c.list_frames.ensures.plays.stops

pub returns-clause-faults : goal.returns-clause-faults
returns-clause-faults g c =
    reported_one c.list_frames.result _ _ _ _ _ c.play_status.ensures c.list_frames.ensures.plays.faults

pub returns-clause-ended : goal.returns-clause-ended
returns-clause-ended g c =
    record {
      answer = c.list_frames.result;
      status_is = c.play_status.ensures;
      ended = c.list_frames.ensures.plays.ended;
    }
