use Rattle.round_trips.proofs.ListedTexts.{no_texts_read, no_text_lines}
use Rattle.round_trips.proofs.texts.streams_without_texts_are_listed.Goals as goal

pub returns-clause-texts : goal.returns-clause-texts
returns-clause-texts c = no_texts_read

pub returns-clause-lines : goal.returns-clause-lines
returns-clause-lines c = no_text_lines
