use Rattle.stream_writer.specs.SheetTexts.{texts_of_sheet}
use Rattle.round_trips.specs.Damage.{count_whole, count_hurt}
use Rattle.round_trips.specs.SheetLines.{sheet_lines}
use Rattle.round_trips.proofs.Answering.{lists_texts}
use Rattle.round_trips.proofs.answers.damaged_text_lists_are_answered.Goals as goal

pub returns : goal.returns
returns c =
    λ sheet script lead_in audio bytes packs whole form changed left out result taken has some authored
    damaged input lists answer.
    let law = c.damaged_lead_ins_give_the_texts.ensures in
    lists_texts form changed (sheet_lines sheet (count_whole whole) (count_hurt whole)) lead_in
    (texts_of_sheet sheet) left out result taken input
    (law.texts sheet script lead_in audio bytes packs whole form changed has some authored damaged)
    (λ text bad listed. law.lines sheet script lead_in audio bytes packs whole form changed text bad has some
    authored damaged listed) lists answer
