use Rattle.rw_mend.proofs.Converted.{clean_many, clean_two}
use Rattle.rw_mend.proofs.Kept.{clean_text}
use Rattle.rw_mend.proofs.laws.a_clean_reading_comes_out.Goals as goal

pub returns-clause-words : goal.returns-clause-words
returns-clause-words c words r programs said found = clean_text words programs r said found

pub returns-clause-two : goal.returns-clause-two
returns-clause-two c lead_in r first second old new counts found =
    clean_two lead_in r first second old new counts found

pub returns-clause-many : goal.returns-clause-many
returns-clause-many c count lead_in r readings old new old_sources new_sources tallies found =
    clean_many count lead_in r readings old new old_sources new_sources tallies found
