use Rattle.std.proofs.Common.{◌≡◌, ◌*◌, ◌+◌, ◌-◌, ◌<◌, ◌++◌, ℕ, All, List, drop, map, min, reverse, take, subst, sym, ap, ◌∙◌, arith}
use Rattle.live_player.specs.Lives.{Given, HasPlayed}
use Rattle.live_player.specs.Lives.Given.{Fed}
use Rattle.live_player.specs.Marks.{given_first, IsMark}
use Rattle.live_player.proofs.Places.{at_end, before_end, given_on, here, next_end}
use Rattle.live_player.proofs.marks.seek_block.Goals as goal

pub loop-part-init : goal.loop-part-init
loop-part-init g c = record {
  there = λ marks. subst
      (λ n. HasPlayed c.args.form c.args.lead_in (given_first Fed n c.args.blocks.now)
      (g.P.AnyPlayer.played c.go_back-start.new.player))
      (sym (here c.args.to c.args.every c.go_back-start.result c.go_back-start.ensures.within))
      (c.go_back-start.ensures.there Fed c.args.blocks.now marks);
  marks = λ marks. marks;
}

pub overflow_add-until : goal.overflow_add-until
overflow_add-until g c =
    let lt = before_end c.args.to c.args.every c.loop-part.part c.requires.every
    (subst (λ n. c.loop-part.part < n) c.div_ceil-part-end.ensures c.loop-part-test.true) in
    omega (arith, lt, c.min.ensures, c.ranges.to.fits)

pub loop-part-preserved : goal.loop-part-preserved
loop-part-preserved g c =
    let from : ℕ = c.args.every * c.loop-part.part in
    let more : ℕ = c.min.result in
    let cut : from + more - from ≡ more = omega arith in
    let after = g.P.AnyPlayer.played c.feed_all.new.player in
    let lt = before_end c.args.to c.args.every c.loop-part.part c.requires.every
    (subst (λ n. c.loop-part.part < n) c.div_ceil-part-end.ensures c.loop-part-test.true) in
    let at : min c.args.to from ≡ from = here c.args.to c.args.every c.loop-part.part (omega (arith, lt)) in
    let end : min c.args.to (c.args.every * (c.loop-part.part + 1)) ≡ from + more =
    next_end c.args.to c.args.every c.loop-part.part lt ∙ ap (λ n. from + n) (sym c.min.ensures) in
    let there : All (IsMark Fed c.args.form c.args.lead_in c.args.blocks.now) c.args.marks.now
    → HasPlayed c.args.form c.args.lead_in (given_first Fed (from + more) c.args.blocks.now) after =
    λ marks. subst (λ (all : List Given). HasPlayed c.args.form c.args.lead_in all after)
    (sym (given_on Fed c.args.blocks.now from more))
    (subst
    (λ n. HasPlayed c.args.form c.args.lead_in (map Fed (reverse (take n (drop from c.args.blocks.now)))
    ++ given_first Fed from c.args.blocks.now) after) cut
    (c.feed_all.ensures.fed c.args.form c.args.lead_in (given_first Fed from c.args.blocks.now)
    (subst (λ n. HasPlayed c.args.form c.args.lead_in (given_first Fed n c.args.blocks.now)
    (g.P.AnyPlayer.played c.loop-part.player)) at
    (c.loop-part.invariant.there marks)))) in
    record {
      there =
          λ marks. subst
          (λ n. HasPlayed c.args.form c.args.lead_in (given_first Fed n c.args.blocks.now) after) (sym end)
          (there marks);
      marks =
          λ marks. c.leave_mark.ensures.marks Fed c.args.form c.args.lead_in c.args.blocks.now
          (c.loop-part.invariant.marks marks)
          (there marks);
    }

pub returns-clause-there : goal.returns-clause-there
returns-clause-there g c marks =
    subst (λ n. HasPlayed c.args.form c.args.lead_in (given_first Fed n c.args.blocks.now)
    (g.P.AnyPlayer.played c.loop-part.player))
    (at_end c.args.to c.args.every c.loop-part.part c.requires.every
    (omega (arith, c.loop-part-test.false, c.div_ceil-part-end.ensures)))
    (c.loop-part.invariant.there marks)
