use Rattle.std.proofs.Common.{◌∙◌}
use Rattle.rw_code.proofs.Parity.{coefficients_value, product_value}
use Rattle.rw_code.proofs.pack.LastFour.times.Goals as goal

pub returns : goal.returns
returns c = λ j.
    coefficients_value j c.mul.ensures c.mul-2.ensures c.mul-3.ensures c.mul-4.ensures
    ∙ product_value j _ _ _ _ c.args.factor
