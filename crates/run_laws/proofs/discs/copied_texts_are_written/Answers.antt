use Rattle.cdg_cmd.specs.LeadInTexts.{HasTextsOf}
use Rattle.cdg_cmd.proofs.Listings.{strings_given}
use Rattle.run_laws.proofs.discs.copied_texts_are_written.Goals as goal

pub returns-clause-strings : goal.returns-clause-strings
returns-clause-strings c =
    λ lead_in audio form sheet script bytes packs call status is fits some long authored.
    strings_given lead_in call.first.after call.second.before call.second.after call.out status _
    (λ all. HasTextsOf form lead_in bytes all) form call.first.before is.does
    (λ all copied answer taken lists listed.
    c.copied_text_lists_are_answered.ensures.texts sheet script lead_in audio bytes packs form all _ _ answer
    taken fits some long authored copied.slots copied.input lists listed)

pub returns-clause-none : goal.returns-clause-none
returns-clause-none c = λ lead_in audio form sheet script bytes packs call status is none authored.
    strings_given lead_in call.first.after call.second.before call.second.after call.out status _
    (λ all. HasTextsOf form lead_in bytes all) form call.first.before is.does
    (λ all copied answer taken lists listed.
    c.copied_text_lists_are_answered.ensures.none sheet script lead_in audio bytes packs form all _ _ answer
    taken none authored copied.slots copied.input lists listed)
