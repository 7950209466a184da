use Rattle.std.proofs.Common.{ap, ◌∙◌}
use Rattle.cdg_screen.specs.Touched.{touched_by}
use Rattle.ribjasper_web.specs.Shown.{number_touched}
use Rattle.ribjasper_web.proofs.changing.ribjasper_web_touches.Goals as goal

pub returns : goal.returns
returns c =
    c.number.ensures
    ∙ ap number_touched c.touches.ensures
    ∙ ap (λ i. number_touched (touched_by i)) c.read_pack.ensures.instruction
