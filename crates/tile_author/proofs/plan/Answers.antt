use Rattle.std.proofs.Common.{true, sym, ap, ◌∙◌}
use Rattle.std.specs.Prelude.{map}
use Rattle.bit_lists.specs.Counting.{below}
use Rattle.tile_author.specs.Plan.{planned, weight}
use Rattle.tile_author.proofs.Answering.{list_empty, list_draws, list_draws_one, list_combines, plan_turns, plan_count, weight_of}
use Rattle.tile_author.proofs.plan.Goals as goal

pub returns-in_default : goal.returns-in_default
returns-in_default c =
    let is =
    list_empty c.args.row c.args.column c.args.old.now c.args.new.now c.new.result.items
    c.in_default.ensures.changes c.new.ensures in
    let old = c.changes.ensures.old in
    let new = c.changes.ensures.new in
    record {
      plan = is;
      turns = plan_turns _ _ _ _ _ c.requires.row c.requires.column old new is;
      count = plan_count _ _ _ _ _ c.requires.row c.requires.column old new is;
    }

pub returns-then-weight-eq1 : goal.returns-then-weight-eq1
returns-then-weight-eq1 c =
    let drawn =
    weight_of c.of-drawn.result c.pixels.result.now c.weight.result c.of-drawn.ensures c.weight.ensures.value
    ∙ ap weight c.pixels.ensures.same in
    let is =
    list_draws_one c.args.row c.args.column c.args.old.now c.args.new.now c.instructions.result.items
    c.in-Some.ensures.changes.0 (sym c.if-weight-eq1.true ∙ drawn)
    (c.instructions.ensures
    ∙ ap (λ pixels. map (planned true c.args.row c.args.column pixels) (below (weight pixels)))
    c.pixels-then-weight-eq1.ensures.same) in
    let old = c.changes.ensures.old in
    let new = c.changes.ensures.new in
    record {
      plan = is;
      turns = plan_turns _ _ _ _ _ c.requires.row c.requires.column old new is;
      count = plan_count _ _ _ _ _ c.requires.row c.requires.column old new is;
    }

pub returns-then-weight : goal.returns-then-weight
returns-then-weight c =
    let drawn =
    weight_of c.of-drawn.result c.pixels.result.now c.weight-2.result c.of-drawn.ensures
    c.weight-2.ensures.value
    ∙ ap weight c.pixels.ensures.same in
    let combined =
    weight_of c.of-combined.result c.in-Some.changes c.weight-3.result c.of-combined.ensures
    c.weight-3.ensures.value
    ∙ ap weight c.in-Some.ensures.changes.1 in
    let is =
    list_draws c.args.row c.args.column c.args.old.now c.args.new.now c.instructions-then-weight.result.items
    c.weight-2.result c.weight-3.result c.in-Some.ensures.changes.0 drawn combined c.if-weight.true
    (c.instructions-then-weight.ensures
    ∙ ap (λ pixels. map (planned true c.args.row c.args.column pixels) (below (weight pixels)))
    c.pixels-then-weight.ensures.same) in
    let old = c.changes.ensures.old in
    let new = c.changes.ensures.new in
    record {
      plan = is;
      turns = plan_turns _ _ _ _ _ c.requires.row c.requires.column old new is;
      count = plan_count _ _ _ _ _ c.requires.row c.requires.column old new is;
    }

pub returns-else-weight : goal.returns-else-weight
returns-else-weight c =
    let drawn =
    weight_of c.of-drawn.result c.pixels.result.now c.weight-2.result c.of-drawn.ensures
    c.weight-2.ensures.value
    ∙ ap weight c.pixels.ensures.same in
    let combined =
    weight_of c.of-combined.result c.in-Some.changes c.weight-3.result c.of-combined.ensures
    c.weight-3.ensures.value in
    let is =
    list_combines c.args.row c.args.column c.args.old.now c.args.new.now c.in-Some.changes
    c.instructions-else-weight.result.items c.weight-2.result c.weight-3.result c.in-Some.ensures.changes.0
    c.in-Some.ensures.changes.1 drawn combined c.if-weight.false c.instructions-else-weight.ensures in
    let old = c.changes.ensures.old in
    let new = c.changes.ensures.new in
    record {
      plan = is;
      turns = plan_turns _ _ _ _ _ c.requires.row c.requires.column old new is;
      count = plan_count _ _ _ _ _ c.requires.row c.requires.column old new is;
    }
