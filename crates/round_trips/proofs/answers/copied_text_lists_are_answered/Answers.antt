use Rattle.std.proofs.Common.{◌*◌}
use Rattle.cdtext_packs.specs.TextLines.{offers_line}
use Rattle.cdtext_packs.specs.Texts.{no_texts}
use Rattle.stream_writer.specs.SheetTexts.{texts_of_sheet}
use Rattle.round_trips.specs.SheetLines.{sheet_lines}
use Rattle.round_trips.proofs.Answering.{lists_texts}
use Rattle.round_trips.proofs.ListedTexts.{copied_listing, copied_texts}
use Rattle.round_trips.proofs.answers.copied_text_lists_are_answered.Goals as goal

pub returns-clause-texts : goal.returns-clause-texts
returns-clause-texts c =
    λ sheet script lead_in audio bytes packs form copy left out result taken has some begun authored same
    input lists answer.
    let law = c.authored_texts_are_listed.ensures in
    lists_texts form copy (sheet_lines sheet (4 * lead_in) 0) lead_in (texts_of_sheet sheet) left out result
    taken input
    (copied_texts form lead_in bytes copy (texts_of_sheet sheet) same
    (law.texts sheet script lead_in audio bytes packs has some begun authored))
    (λ text bad listed. law.lines sheet script lead_in audio bytes packs text bad has some begun authored
    (copied_listing form lead_in bytes copy text bad same listed)) lists answer

pub returns-clause-none : goal.returns-clause-none
returns-clause-none c =
    λ sheet script lead_in audio bytes packs form copy left out result taken none authored same input lists
    answer.
    let law = c.streams_without_texts_are_listed.ensures in
    lists_texts form copy (offers_line 0 (4 * lead_in) 0) lead_in no_texts left out result taken input
    (copied_texts form lead_in bytes copy no_texts same
    (law.texts sheet script lead_in audio bytes packs none authored))
    (λ text bad listed. law.lines sheet script lead_in audio bytes packs text bad none authored
    (copied_listing form lead_in bytes copy text bad same listed)) lists answer
