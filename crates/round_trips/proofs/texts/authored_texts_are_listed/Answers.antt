use Rattle.round_trips.proofs.ListedTexts.{authored_texts, authored_lines}
use Rattle.round_trips.proofs.texts.authored_texts_are_listed.Goals as goal

pub returns-clause-texts : goal.returns-clause-texts
returns-clause-texts c = authored_texts c.texts_come_back.ensures

pub returns-clause-lines : goal.returns-clause-lines
returns-clause-lines c = authored_lines c.texts_come_back.ensures
