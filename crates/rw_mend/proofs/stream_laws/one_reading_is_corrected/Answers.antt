use Rattle.rw_mend.proofs.Single.{own_channels, own_kept, own_word}
use Rattle.rw_mend.proofs.stream_laws.one_reading_is_corrected.Goals as goal

pub returns-clause-channels : goal.returns-clause-channels
returns-clause-channels c lead_in p reading found stream is = own_channels lead_in reading found stream is p

pub returns-clause-kept : goal.returns-clause-kept
returns-clause-kept c lead_in p reading found stream is = own_kept lead_in reading found stream is p

pub returns-clause-words : goal.returns-clause-words
returns-clause-words c lead_in n reading found stream is = own_word lead_in reading found stream is n
