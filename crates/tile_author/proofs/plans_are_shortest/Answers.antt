use Rattle.std.proofs.Common.{refl}
use Rattle.tile_author.specs.Plan.{plan, steps}
use Rattle.tile_author.proofs.Answering.{plan_turns, plan_count, steps_least}
use Rattle.tile_author.proofs.plans_are_shortest.Goals as goal

pub returns-clause-turns : goal.returns-clause-turns
returns-clause-turns c row column old new row_lt column_lt old_tile new_tile =
    plan_turns row column old new (plan row column old new) row_lt column_lt old_tile new_tile refl

pub returns-clause-count : goal.returns-clause-count
returns-clause-count c row column old new row_lt column_lt old_tile new_tile =
    plan_count row column old new (plan row column old new) row_lt column_lt old_tile new_tile refl

pub returns-clause-least : goal.returns-clause-least
returns-clause-least c row column old new row_lt column_lt old_tile new_tile =
    steps_least old new (steps old new) row column old_tile new_tile refl row_lt column_lt
