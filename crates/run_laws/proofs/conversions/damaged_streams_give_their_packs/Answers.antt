use Rattle.cdg_cmd.proofs.SecondHalf.{converted_back, gives_none_bad, gives_packs}
use Rattle.run_laws.proofs.conversions.damaged_streams_give_their_packs.Goals as goal

pub returns : goal.returns
returns c = λ lead_in form call status is.
    converted_back form lead_in call.first.after call.second.before call.second.after call.out status
    (gives_packs c.packs_are_recovered.ensures c.found_packs_are_the_text.ensures.text
    c.found_packs_are_the_text.ensures.bad)
    (gives_none_bad c.packs_are_recovered.ensures c.found_packs_are_the_text.ensures.text
    c.found_packs_are_the_text.ensures.bad) call.first.before (is.does (is.never tt))
