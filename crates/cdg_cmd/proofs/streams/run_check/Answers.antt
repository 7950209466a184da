use Rattle.cdg_cmd.proofs.Played.{never_memory, reported_one, untouched}
use Rattle.cdg_cmd.proofs.streams.run_check.Goals as goal

pub returns-clause-does : goal.returns-clause-does
returns-clause-does g c =
    let played = c.check.ensures.plays.plays in
    record {
      answer = c.check.result;
      status_is = c.play_status.ensures;
      taken = played.taken;
      did = played.puts;
      exactly = (played.stops, played.answer);
    }

pub returns-clause-memory : goal.returns-clause-memory
returns-clause-memory g c =
    never_memory c.check.result _ c.play_status.ensures c.check.ensures.plays.plays.stops

pub returns-clause-faults : goal.returns-clause-faults
returns-clause-faults g c =
    reported_one c.check.result _ _ _ _ _ c.play_status.ensures c.check.ensures.plays.plays.faults

pub returns-clause-ended : goal.returns-clause-ended
returns-clause-ended g c =
    record {
      answer = c.check.result;
      status_is = c.play_status.ensures;
      ended = c.check.ensures.plays.plays.ended;
    }

pub returns-clause-untouched : goal.returns-clause-untouched
returns-clause-untouched g c =
    untouched c.check.result _ _ _ c.play_status.ensures c.check.ensures.plays.untouched
