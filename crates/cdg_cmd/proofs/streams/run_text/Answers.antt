use Rattle.std.proofs.Common.{inl, inr, refl}
use Rattle.cdg_cmd.proofs.Played.{out_of_memory_is, reported_one, untouched}
use Rattle.cdg_cmd.proofs.Allocations as allocations
use Rattle.cdg_cmd.proofs.streams.run_text.Goals as goal

pub returns-in-Ok-clause-does : goal.returns-in-Ok-clause-does
returns-in-Ok-clause-does g c = λ found.
    let played = c.list_texts.ensures.plays.plays in
    record {
      answer = c.list_texts.result;
      status_is = c.play_status.ensures;
      taken = played.taken;
      did = played.puts;
      exactly = (played.stops, played.answer);
    }

pub returns-in-Ok-clause-untouched : goal.returns-in-Ok-clause-untouched
returns-in-Ok-clause-untouched g c =
    untouched c.list_texts.result _ _ _ c.play_status.ensures c.list_texts.ensures.plays.untouched

pub returns-in-Ok-clause-faults : goal.returns-in-Ok-clause-faults
returns-in-Ok-clause-faults g c =
    reported_one c.list_texts.result _ _ _ _ _ c.play_status.ensures c.list_texts.ensures.plays.plays.faults

pub returns-in-Ok-clause-ended : goal.returns-in-Ok-clause-ended
returns-in-Ok-clause-ended g c =
    let played = c.list_texts.ensures.plays.plays in
    inr (
      record {
        answer = c.list_texts.result;
        status_is = c.play_status.ensures;
        ended = c.list_texts.ensures.plays.plays.ended;
      },
      λ none. (out_of_memory_is c.list_texts.result _ c.args.form c.args.lead_in _ _ c.play_status.ensures
          played.puts.plays.ended played.answer none).0,
    )

pub returns-in-Err-clause-ended : goal.returns-in-Err-clause-ended
returns-in-Err-clause-ended g c = inl (refl, refl, refl)

pub returns-in-Ok-clause-no_memory : goal.returns-in-Ok-clause-no_memory
returns-in-Ok-clause-no_memory g c = λ none.
    let played = c.list_texts.ensures.plays.plays in
    inr (out_of_memory_is c.list_texts.result _ c.args.form c.args.lead_in _ _ c.play_status.ensures
    played.puts.plays.ended played.answer none)

pub returns-in-Ok-clause-allocations : goal.returns-in-Ok-clause-allocations
returns-in-Ok-clause-allocations g c =
    allocations.reached _ _ _ _ (allocations.kept_first _ _ _ _ c.in-Ok.ensures.counted)
    (allocations.reported_listed _ _ c.list_texts.result _ c.play_status.ensures c.list_texts.ensures.counted)

pub returns-in-Err-clause-allocations : goal.returns-in-Err-clause-allocations
returns-in-Err-clause-allocations g c = allocations.lacked_first _ _ _ _ refl c.in-Err.ensures.counted
