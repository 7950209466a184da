use Rattle.rw_code.proofs.Parity.{tail_sums}
use Rattle.rw_code.proofs.pack.with_whole_parity.Goals as goal

pub returns-clause-whole : goal.returns-clause-whole
returns-clause-whole c =
    tail_sums c.args.word.now _ _ _ _ _ _ _ _ _ c.words_have_24_symbols.ensures c.of.ensures c.of-last.ensures
    c.plus.ensures c.plus-2.ensures c.plus-3.ensures c.plus-4.ensures
