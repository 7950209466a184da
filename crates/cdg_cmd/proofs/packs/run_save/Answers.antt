use Rattle.std.proofs.Common.{refl}
use Rattle.cdg_cmd.proofs.Pumped.{never_memory, reported_one}
use Rattle.cdg_cmd.proofs.SaveReported.{untouched}
use Rattle.cdg_cmd.proofs.Allocations as allocations
use Rattle.cdg_cmd.proofs.packs.run_save.Goals as goal

pub returns-in-Ok-clause-does : goal.returns-in-Ok-clause-does
returns-in-Ok-clause-does g c = λ found.
    let saved = c.save.ensures in
    record {
      answer = c.save.result;
      status_is = c.pump_status.ensures;
      taken = saved.saves.0;
      did = saved.saves.1;
      exactly = saved.answer;
    }

pub returns-in-Ok-clause-no_memory : goal.returns-in-Ok-clause-no_memory
returns-in-Ok-clause-no_memory g c = λ none. absurd (never_memory c.save.result _ c.pump_status.ensures none)

pub returns-in-Ok-clause-untouched : goal.returns-in-Ok-clause-untouched
returns-in-Ok-clause-untouched g c =
    untouched c.save.result _ _ _ c.pump_status.ensures c.save.ensures.untouched

pub returns-in-Ok-clause-faults : goal.returns-in-Ok-clause-faults
returns-in-Ok-clause-faults g c =
    let saved = c.save.ensures in
    reported_one c.save.result _ _ _ _ _ c.pump_status.ensures saved.read_fault saved.write_fault

pub returns-in-Ok-clause-ended : goal.returns-in-Ok-clause-ended
returns-in-Ok-clause-ended g c = λ found.
    record { answer = c.save.result; status_is = c.pump_status.ensures; ended = c.save.ensures.ended }

pub returns-in-Ok-clause-allocations : goal.returns-in-Ok-clause-allocations
returns-in-Ok-clause-allocations g c =
    allocations.found_first _ _ _ c.in-Ok.checkpointer _ c.in-Ok.ensures.counted
    (never_memory c.save.result _ c.pump_status.ensures)

pub returns-in-Err-clause-allocations : goal.returns-in-Err-clause-allocations
returns-in-Err-clause-allocations g c = allocations.lacked_first _ _ _ _ refl c.in-Err.ensures.counted
