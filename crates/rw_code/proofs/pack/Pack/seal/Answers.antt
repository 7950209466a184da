use Rattle.rw_code.proofs.Parity.{sealed, only_one_sealed, has_symbols}
use Rattle.rw_code.proofs.pack.Pack.seal.Goals as goal

pub invariant_of-result : goal.invariant_of-result
invariant_of-result c =
    sealed c.with_head-headed.result c.with_body.result c.with_whole_parity-word.result
    c.words_have_24_symbols.ensures c.words_have_24_symbols-2.ensures
    c.with_body.ensures.first_four c.with_whole_parity-word.ensures.kept c.with_head-headed.ensures.first_four
    c.with_whole_parity-word.ensures.whole

pub returns-clause-codeword : goal.returns-clause-codeword
returns-clause-codeword c =
    sealed c.with_head-headed.result c.with_body.result c.with_whole_parity-word.result
    c.words_have_24_symbols.ensures c.words_have_24_symbols-2.ensures
    c.with_body.ensures.first_four c.with_whole_parity-word.ensures.kept c.with_head-headed.ensures.first_four
    c.with_whole_parity-word.ensures.whole

pub returns-clause-only : goal.returns-clause-only
returns-clause-only c = λ w w_code w_has.
    only_one_sealed c.args.head c.args.body w c.with_whole_parity-word.result w_code
    (sealed c.with_head-headed.result c.with_body.result c.with_whole_parity-word.result
    c.words_have_24_symbols.ensures c.words_have_24_symbols-2.ensures
    c.with_body.ensures.first_four c.with_whole_parity-word.ensures.kept c.with_head-headed.ensures.first_four
    c.with_whole_parity-word.ensures.whole)
    w_has
    (has_symbols c.args.head c.args.body c.with_head-headed.result c.with_body.result
    c.with_whole_parity-word.result
    c.with_head-headed.ensures.head c.with_body.ensures.first_four c.with_body.ensures.body
    c.with_whole_parity-word.ensures.kept)
