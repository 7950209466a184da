use Rattle.rw_mend.proofs.Converted.{converted_many, converted_two, word_alone}
use Rattle.rw_mend.proofs.laws.a_reading_that_counts_alone_is_converted.Goals as goal

pub returns-clause-words : goal.returns-clause-words
returns-clause-words c words r programs said found is mended n lt apart =
    word_alone words programs r n said found is mended lt apart

pub returns-clause-two : goal.returns-clause-two
returns-clause-two c lead_in r first second old new counts found =
    converted_two lead_in r first second old new counts found

pub returns-clause-many : goal.returns-clause-many
returns-clause-many c count lead_in r readings old new old_sources new_sources tallies found =
    converted_many count lead_in r readings old new old_sources new_sources tallies found
