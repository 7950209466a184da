use Rattle.std.proofs.Common.{ap, ◌∙◌, subst}
use Rattle.cdg_instructions.specs.Instruction.{IsTilePixels}
use Rattle.tile_author.proofs.Answering.{weight_of, weight_least, weight_none}
use Rattle.tile_author.specs.Plan.{weight}
use Rattle.tile_author.proofs.weight.Goals as goal

pub returns-clause-value : goal.returns-clause-value
returns-clause-value c =
    weight_of c.of.result c.pixels.result.now c.weight.result c.of.ensures c.weight.ensures.value
    ∙ ap weight c.pixels.ensures.same

pub returns-clause-least : goal.returns-clause-least
returns-clause-least c row column colour =
    weight_least c.args.new.now c.weight.result row column colour
    (subst IsTilePixels c.pixels.ensures.same c.pixels.ensures.tile)
    (weight_of c.of.result c.pixels.result.now c.weight.result c.of.ensures c.weight.ensures.value
    ∙ ap weight c.pixels.ensures.same)

pub returns-clause-none : goal.returns-clause-none
returns-clause-none c row column colour = weight_none c.args.new.now row column colour
