use Rattle.std.proofs.Common.{ap, ◌∙◌, arith}
use Rattle.rw_mend.specs.Candidates.{is_graphics_candidate}
use Rattle.rw_mend.proofs.Quiet.{heavy_graphics, light_no_graphics}
use Rattle.rw_mend.proofs.silences.is_graphics_at.Goals as goal

pub returns-then-weight-le-MOST_WRONG : goal.returns-then-weight-le-MOST_WRONG
returns-then-weight-le-MOST_WRONG c =
    light_no_graphics c.args.program.now c.args.m c.word_at-word.result c.word_at-word.ensures
    (omega (arith, c.weight.ensures.count, c.if-weight-le-MOST_WRONG.true))

pub returns : goal.returns
returns c =
    c.is_graphics.ensures
    ∙ ap is_graphics_candidate c.decode.ensures
    ∙ heavy_graphics c.args.program.now c.args.m c.word_at-word.result c.word_at-word.ensures
    (omega (arith, c.weight.ensures.count, c.if-weight-le-MOST_WRONG.false))
