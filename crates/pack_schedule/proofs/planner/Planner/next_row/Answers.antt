use Rattle.std.proofs.Common.{arith}
use Rattle.pack_schedule.proofs.PlanLaws.{before_next}
use Rattle.pack_schedule.proofs.planner.Planner.next_row.Goals as goal

pub invariant_of-self : goal.invariant_of-self
invariant_of-self c =
    let inside = c.self.inside in
    before_next inside.script.now inside.given c.draw_like.new.self c.draw_until.new.self
    c.plan_row-row.new.weights
    (omega (arith, c.if-self-pictures.false, c.pictures.ensures.value, c.self.invariant.k_most))
    c.draw_like.ensures.at c.draw_like.ensures.picture c.draw_until.ensures.at c.draw_until.ensures.picture
    c.plan_row-row.ensures.weights
