use Rattle.cdg_cmd.proofs.Merged.{merged_back, repaired_back}
use Rattle.run_laws.proofs.conversions.damaged_readings_give_their_packs.Goals as goal

pub returns : goal.returns
returns c = λ lead_in call status is.
    repaired_back c.two_readings_give_packs.ensures.damage lead_in call.first.before call.second.before
    call.out status
    (merged_back c.two_readings_give_packs.ensures.text lead_in call.first.after call.second.after call.out
    status call.first.before call.second.before (is.does (is.never tt)))
