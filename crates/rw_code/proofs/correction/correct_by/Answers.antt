use Rattle.rw_code.proofs.Errors.{none_near}
use Rattle.rw_code.proofs.correction.correct_by.Goals as goal

pub returns : goal.returns
returns c = none_near _ _ c.words_have_24_symbols.ensures c.requires.no_codeword c.requires.syndromes
    c.in_default.ensures c.in_default-two_errors.ensures
