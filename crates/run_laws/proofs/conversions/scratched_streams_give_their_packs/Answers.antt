use Rattle.cdg_cmd.proofs.SecondHalf.{converted_back, gives_none_bad, gives_packs}
use Rattle.raw_subcode.specs.declared.form.Form.TheVariants.{Raw}
use Rattle.run_laws.proofs.Scratched.{scratched_back}
use Rattle.run_laws.proofs.conversions.scratched_streams_give_their_packs.Goals as goal

pub returns : goal.returns
returns c = λ lead_in audio seed sheet script bytes packs call status is short few authored.
    scratched_back lead_in _ seed bytes packs call.first.before call.out status
    (c.scratched_streams_are_damaged.ensures.damaged sheet script lead_in audio seed bytes packs short few
    authored)
    (c.scratched_streams_are_damaged.ensures.packs sheet script lead_in audio bytes packs authored)
    (converted_back Raw lead_in call.first.after call.second.before call.second.after call.out status
    (gives_packs c.packs_are_recovered.ensures c.found_packs_are_the_text.ensures.text
    c.found_packs_are_the_text.ensures.bad)
    (gives_none_bad c.packs_are_recovered.ensures c.found_packs_are_the_text.ensures.text
    c.found_packs_are_the_text.ensures.bad) call.first.before (is.does (is.never tt)))
