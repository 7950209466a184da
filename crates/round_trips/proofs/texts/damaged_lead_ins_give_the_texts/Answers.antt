use Rattle.round_trips.proofs.ListedTexts.{damaged_texts, damaged_lines}
use Rattle.round_trips.proofs.texts.damaged_lead_ins_give_the_texts.Goals as goal

pub returns-clause-texts : goal.returns-clause-texts
returns-clause-texts c = damaged_texts c.texts_come_back.ensures

pub returns-clause-lines : goal.returns-clause-lines
returns-clause-lines c = damaged_lines c.texts_come_back.ensures
