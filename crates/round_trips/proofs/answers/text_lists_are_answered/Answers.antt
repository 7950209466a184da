use Rattle.std.proofs.Common.{◌*◌}
use Rattle.raw_subcode.specs.declared.form.Form.TheVariants.{Raw}
use Rattle.cdtext_packs.specs.TextLines.{offers_line}
use Rattle.cdtext_packs.specs.Texts.{no_texts}
use Rattle.stream_writer.specs.SheetTexts.{texts_of_sheet}
use Rattle.round_trips.specs.SheetLines.{sheet_lines}
use Rattle.round_trips.proofs.Answering.{whole_blocks, lists_texts}
use Rattle.round_trips.proofs.answers.text_lists_are_answered.Goals as goal

pub returns-clause-texts : goal.returns-clause-texts
returns-clause-texts c =
    λ sheet script lead_in audio bytes packs left out result taken has some begun authored few lists answer.
    let law = c.authored_texts_are_listed.ensures in
    lists_texts Raw bytes (sheet_lines sheet (4 * lead_in) 0) lead_in (texts_of_sheet sheet) left out result
    taken
    (whole_blocks sheet script lead_in audio bytes packs authored few)
    (law.texts sheet script lead_in audio bytes packs has some begun authored)
    (λ text bad listed.
    law.lines sheet script lead_in audio bytes packs text bad has some begun authored listed) lists answer

pub returns-clause-none : goal.returns-clause-none
returns-clause-none c =
    λ sheet script lead_in audio bytes packs left out result taken none authored few lists answer.
    let law = c.streams_without_texts_are_listed.ensures in
    lists_texts Raw bytes (offers_line 0 (4 * lead_in) 0) lead_in no_texts left out result taken
    (whole_blocks sheet script lead_in audio bytes packs authored few)
    (law.texts sheet script lead_in audio bytes packs none authored)
    (λ text bad listed. law.lines sheet script lead_in audio bytes packs text bad none authored listed) lists
    answer
