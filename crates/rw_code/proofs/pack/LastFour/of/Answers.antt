use Rattle.std.proofs.Common.{◌∙◌, ap}
use Rattle.gf64.specs.Field.{product}
use Rattle.rw_code.proofs.Parity.{only_own, coefficients_value}
use Rattle.rw_code.proofs.pack.LastFour.of.Goals as goal

pub returns : goal.returns
returns c = λ j lt.
    let sums = c.sums-sums.result in
    let are = c.sums-sums.ensures in
    only_own c.args.syndromes.lanes sums.zeroth sums.first sums.second sums.third are.zeroth are.first
    are.second are.third
    j _ _ _ _ _ _ _ lt (c.add-3.ensures j) (c.add-2.ensures j) (c.add.ensures j)
    (c.times-zeroth.ensures j
    ∙ ap (λ n. product n sums.zeroth) (coefficients_value j c.powers.ensures.cubic c.powers.ensures.square
    c.powers.ensures.linear c.powers.ensures.constant))
    (c.times-first.ensures j
    ∙ ap (λ n. product n sums.first) (coefficients_value j c.powers-2.ensures.cubic c.powers-2.ensures.square
    c.powers-2.ensures.linear c.powers-2.ensures.constant))
    (c.times-second.ensures j
    ∙ ap (λ n. product n sums.second) (coefficients_value j c.powers-3.ensures.cubic c.powers-3.ensures.square
    c.powers-3.ensures.linear c.powers-3.ensures.constant))
    (c.times-third.ensures j
    ∙ ap (λ n. product n sums.third) (coefficients_value j c.powers-4.ensures.cubic c.powers-4.ensures.square
    c.powers-4.ensures.linear c.powers-4.ensures.constant))
