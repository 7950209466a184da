use Rattle.std.proofs.Common.{sym, ap, ◌∙◌}
use Rattle.tile_author.specs.Plan.{weight}
use Rattle.tile_author.proofs.Answering.{no_steps, one_step, some_steps, steps_least, weight_of}
use Rattle.tile_author.proofs.steps_of_weight.Goals as goal

pub returns-in_default-clause-value : goal.returns-in_default-clause-value
returns-in_default-clause-value c = no_steps c.args.old.now c.args.new.now c.in_default.ensures.changes

pub returns-in_default-clause-least : goal.returns-in_default-clause-least
returns-in_default-clause-least c row column =
    steps_least c.args.old.now c.args.new.now 0 row column c.changes.ensures.old c.changes.ensures.new
    (returns-in_default-clause-value c)

pub returns-then-drawn-eq1-clause-value : goal.returns-then-drawn-eq1-clause-value
returns-then-drawn-eq1-clause-value c =
    one_step c.args.old.now c.args.new.now c.in-Some.ensures.changes.0 (sym c.if-drawn-eq1.true ∙ c.requires)

pub returns-then-drawn-eq1-clause-least : goal.returns-then-drawn-eq1-clause-least
returns-then-drawn-eq1-clause-least c row column =
    steps_least c.args.old.now c.args.new.now 1 row column c.changes.ensures.old c.changes.ensures.new
    (returns-then-drawn-eq1-clause-value c)

pub returns-clause-value : goal.returns-clause-value
returns-clause-value c =
    c.min.ensures
    ∙ some_steps c.args.old.now c.args.new.now c.args.drawn c.weight-combined.result
    c.in-Some.ensures.changes.0 c.requires
    (weight_of c.of.result c.in-Some.changes c.weight-combined.result c.of.ensures
    c.weight-combined.ensures.value
    ∙ ap weight c.in-Some.ensures.changes.1)

pub returns-clause-least : goal.returns-clause-least
returns-clause-least c row column =
    steps_least c.args.old.now c.args.new.now c.min.result row column c.changes.ensures.old
    c.changes.ensures.new (returns-clause-value c)
