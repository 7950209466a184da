use Rattle.std.proofs.Common.{ap, sym, subst, ◌∙◌}
use Rattle.rw_code.specs.Codeword.{Reads, differences}
use Rattle.rw_code.proofs.Errors.{one_right}
use Rattle.rw_code.proofs.correction.without_one.Goals as goal

pub of-requires : goal.of-requires
of-requires c = (one_right _ c.plus-right.result c.args.syndromes.lanes _ _ c.words_have_24_symbols.ensures
    c.words_have_24_symbols-2.ensures c.requires.syndromes c.requires.error
    c.plus-right.ensures).0.is_codeword

pub returns-clause-reads : goal.returns-clause-reads
returns-clause-reads c =
    subst (Reads c.args.received.now) (sym c.of.ensures)
    (one_right _ c.plus-right.result c.args.syndromes.lanes _ _ c.words_have_24_symbols.ensures
    c.words_have_24_symbols-2.ensures c.requires.syndromes c.requires.error c.plus-right.ensures).0

pub returns-clause-wrong : goal.returns-clause-wrong
returns-clause-wrong c =
    (one_right _ c.plus-right.result c.args.syndromes.lanes _ _ c.words_have_24_symbols.ensures
    c.words_have_24_symbols-2.ensures c.requires.syndromes c.requires.error c.plus-right.ensures).1
    ∙ ap (differences c.args.received.now) (sym c.of.ensures)
