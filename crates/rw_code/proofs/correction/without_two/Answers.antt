use Rattle.std.proofs.Common.{ap, sym, subst, ◌∙◌}
use Rattle.rw_code.specs.Codeword.{Reads, differences}
use Rattle.rw_code.proofs.Errors.{changed, two_right}
use Rattle.rw_code.proofs.correction.without_two.Goals as goal

pub of-requires : goal.of-requires
of-requires c =
    let errors = c.args.errors in
    let right_is = c.plus-right.ensures ∙ ap (λ half. changed half errors.second.position errors.second.value)
    c.plus-half.ensures in
    (two_right c.args.received.now c.plus-right.result c.args.syndromes.lanes errors.first.position
    errors.first.value errors.second.position errors.second.value
    c.words_have_24_symbols.ensures c.words_have_24_symbols-2.ensures c.requires.syndromes c.requires.errors
    right_is).0.is_codeword

pub returns-clause-reads : goal.returns-clause-reads
returns-clause-reads c =
    let errors = c.args.errors in
    let right_is = c.plus-right.ensures ∙ ap (λ half. changed half errors.second.position errors.second.value)
    c.plus-half.ensures in
    subst (Reads c.args.received.now) (sym c.of.ensures)
    (two_right c.args.received.now c.plus-right.result c.args.syndromes.lanes errors.first.position
    errors.first.value errors.second.position errors.second.value
    c.words_have_24_symbols.ensures c.words_have_24_symbols-2.ensures c.requires.syndromes c.requires.errors
    right_is).0

pub returns-clause-wrong : goal.returns-clause-wrong
returns-clause-wrong c =
    let errors = c.args.errors in
    let right_is = c.plus-right.ensures ∙ ap (λ half. changed half errors.second.position errors.second.value)
    c.plus-half.ensures in
    (two_right c.args.received.now c.plus-right.result c.args.syndromes.lanes errors.first.position
    errors.first.value errors.second.position errors.second.value
    c.words_have_24_symbols.ensures c.words_have_24_symbols-2.ensures c.requires.syndromes c.requires.errors
    right_is).1
    ∙ ap (differences c.args.received.now) (sym c.of.ensures)
