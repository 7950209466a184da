use Rattle.std.proofs.Common.{◌∙◌}
use Rattle.rw_code.proofs.Parity.{coefficients_value, sum_value}
use Rattle.rw_code.proofs.pack.LastFour.add.Goals as goal

pub returns : goal.returns
returns c = λ j.
    coefficients_value j c.add.ensures.sum c.add-2.ensures.sum c.add-3.ensures.sum c.add-4.ensures.sum
    ∙ sum_value j _ _ _ _ _ _ _ _
