use Rattle.cue_sheet.proofs.SheetTexts.{sheet_in_order, texts_of_bytes}
use Rattle.cue_sheet.proofs.sheet.accepted_sheets_are_in_order.Goals as goal

pub returns-clause-order : goal.returns-clause-order
returns-clause-order c = sheet_in_order

pub returns-clause-texts : goal.returns-clause-texts
returns-clause-texts c = texts_of_bytes
