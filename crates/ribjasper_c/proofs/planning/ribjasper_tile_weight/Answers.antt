use Rattle.std.proofs.Common.{◌≡◌, ◌∙◌, ℕ, List, sym, subst}
use Rattle.std.specs.Prelude.{replicate}
use Rattle.cdg_instructions.specs.Drawing.{IsLeast}
use Rattle.tile_author.specs.Plan.{weight}
use Rattle.ribjasper_c.proofs.planning.ribjasper_tile_weight.Goals as goal

pub returns-in-Some-clause-least : goal.returns-in-Some-clause-least
returns-in-Some-clause-least c row column colour all row_lt column_lt colour_lt other =
    let same : c.in-Some.tile ≡ c.args.pixels.now = c.in-Some.ensures.1 in
    subst (λ (pixels : List ℕ). IsLeast row column (replicate 72 colour) pixels (weight pixels)) same
    (subst (λ (count : ℕ). IsLeast row column (replicate 72 colour) c.in-Some.tile count)
    c.weight.ensures.value
    (c.weight.ensures.least row column colour row_lt column_lt colour_lt (λ is. other (sym same ∙ is))))
