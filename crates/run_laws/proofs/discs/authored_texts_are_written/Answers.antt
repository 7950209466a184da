use Rattle.subcode_author.specs.Authored.{IsAuthored, disc_of}
use Rattle.raw_subcode.specs.declared.form.Form.TheVariants.{Raw}
use Rattle.cdg_cmd.proofs.Listings.{authored_size, strings_given}
use Rattle.run_laws.proofs.discs.authored_texts_are_written.Goals as goal

pub returns-clause-strings : goal.returns-clause-strings
returns-clause-strings c = λ lead_in audio sheet script packs call status is short few fits some long.
    strings_given lead_in call.first.after call.second.before call.second.after call.out status _
    (λ all. IsAuthored (disc_of sheet script lead_in audio) all packs) Raw call.first.before is.does
    (λ all authored answer taken lists listed.
    c.text_lists_are_answered.ensures.texts sheet script lead_in audio all packs _ _ answer taken fits some
    long authored
    (authored_size sheet script lead_in audio all packs short few authored) lists listed)

pub returns-clause-none : goal.returns-clause-none
returns-clause-none c = λ lead_in audio sheet script packs call status is short few none.
    strings_given lead_in call.first.after call.second.before call.second.after call.out status _
    (λ all. IsAuthored (disc_of sheet script lead_in audio) all packs) Raw call.first.before is.does
    (λ all authored answer taken lists listed.
    c.text_lists_are_answered.ensures.none sheet script lead_in audio all packs _ _ answer taken none authored
    (authored_size sheet script lead_in audio all packs short few authored) lists listed)
