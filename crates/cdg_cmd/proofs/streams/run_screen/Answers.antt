use Rattle.std.proofs.Common.{refl}
use Rattle.cdg_cmd.proofs.Played.{shown_never_memory, reported_one, untouched}
use Rattle.cdg_cmd.proofs.Allocations as allocations
use Rattle.cdg_cmd.proofs.streams.run_screen.Goals as goal

pub returns-in-Ok-clause-does : goal.returns-in-Ok-clause-does
returns-in-Ok-clause-does g c = λ found.
    let played = c.screen_at.ensures.plays.plays in
    record {
      answer = c.screen_at.result;
      status_is = c.play_status.ensures;
      taken = played.taken;
      did = played.puts;
      exactly = (played.stops, played.answer);
    }

pub returns-in-Ok-clause-no_memory : goal.returns-in-Ok-clause-no_memory
returns-in-Ok-clause-no_memory g c =
    λ none.
    absurd (shown_never_memory c.screen_at.result _ c.play_status.ensures
    c.screen_at.ensures.plays.plays.stops none)

pub returns-in-Ok-clause-untouched : goal.returns-in-Ok-clause-untouched
returns-in-Ok-clause-untouched g c =
    untouched c.screen_at.result _ _ _ c.play_status.ensures c.screen_at.ensures.plays.untouched

pub returns-in-Ok-clause-faults : goal.returns-in-Ok-clause-faults
returns-in-Ok-clause-faults g c =
    reported_one c.screen_at.result _ _ _ _ _ c.play_status.ensures c.screen_at.ensures.plays.plays.faults

pub returns-in-Ok-clause-ended : goal.returns-in-Ok-clause-ended
returns-in-Ok-clause-ended g c = λ found.
    record {
      answer = c.screen_at.result;
      status_is = c.play_status.ensures;
      ended = c.screen_at.ensures.plays.plays.ended;
    }

pub returns-in-Ok-clause-allocations : goal.returns-in-Ok-clause-allocations
returns-in-Ok-clause-allocations g c =
    allocations.found_first _ _ _ c.in-Ok.viewer _ c.in-Ok.ensures.counted
    (shown_never_memory c.screen_at.result _ c.play_status.ensures c.screen_at.ensures.plays.plays.stops)

pub returns-in-Err-clause-allocations : goal.returns-in-Err-clause-allocations
returns-in-Err-clause-allocations g c = allocations.lacked_first _ _ _ _ refl c.in-Err.ensures.counted
