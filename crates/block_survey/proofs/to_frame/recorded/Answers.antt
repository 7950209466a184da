use Rattle.std.proofs.Common.{refl, rules}
use Rattle.block_survey.proofs.to_frame.recorded.Goals as goal

pub returns : goal.returns
returns c =
    let good = c.is_code.ensures.0 c.if-not-is_code.false in
    (refl, (search rules, search rules, good.0, good.1, good.2, search rules))
