use Rattle.rw_mend.proofs.Damaged.{damaged_many, damaged_pair, damaged_text, damaged_two}
use Rattle.rw_mend.proofs.laws.damaged_readings_give_back_the_packs.Goals as goal

pub returns-clause-words : goal.returns-clause-words
returns-clause-words c lead_in blocks packs readings said found =
    damaged_text lead_in blocks packs readings said found

pub returns-clause-two : goal.returns-clause-two
returns-clause-two c lead_in blocks packs first second old new counts =
    damaged_two lead_in blocks packs first second old new counts

pub returns-clause-many : goal.returns-clause-many
returns-clause-many c count lead_in blocks packs readings old new old_sources new_sources tallies =
    damaged_many count lead_in blocks packs readings old new old_sources new_sources tallies

pub returns-clause-merged : goal.returns-clause-merged
returns-clause-merged c lead_in blocks packs first second =
    damaged_pair lead_in blocks packs first second
