use Rattle.std.proofs.Common.{◌≡◌, ◌*◌, ◌+◌, ◌-◌, ◌<◌, ◌++◌, ℕ, All, List, drop, map, min, reverse, take, subst, sym, ap, ◌∙◌, arith}
use Rattle.live_player.specs.Lives.{Given, HasPlayed}
use Rattle.live_player.specs.Lives.Given.{Drawn}
use Rattle.live_player.specs.Marks.{given_first, IsMark}
use Rattle.raw_subcode.specs.declared.form.Form.TheVariants.{Raw}
use Rattle.live_player.proofs.Places.{at_end, before_end, given_on, here, next_end}
use Rattle.live_player.proofs.marks.seek_pack.Goals as goal

pub loop-part-init : goal.loop-part-init
loop-part-init g c = record {
  there = λ marks. subst
      (λ n.
      HasPlayed Raw 0 (given_first Drawn n c.args.packs.now)
      (g.P.AnyPlayer.played c.go_back-start.new.player))
      (sym (here c.args.to c.args.every c.go_back-start.result c.go_back-start.ensures.within))
      (c.go_back-start.ensures.there Drawn c.args.packs.now marks);
  marks = λ marks. marks;
}

pub overflow_add-until : goal.overflow_add-until
overflow_add-until g c =
    let lt = before_end c.args.to c.args.every c.loop-part.part c.requires.every
    (subst (λ n. c.loop-part.part < n) c.div_ceil-part-end.ensures c.loop-part-test.true) in
    omega (arith, lt, c.min.ensures, c.ranges.to.fits)

pub loop-part-preserved : goal.loop-part-preserved
loop-part-preserved g c =
    let from : ℕ = c.args.every * c.loop-part.part in
    let more : ℕ = c.min.result in
    let cut : from + more - from ≡ more = omega arith in
    let after = g.P.AnyPlayer.played c.draw_all.new.player in
    let lt = before_end c.args.to c.args.every c.loop-part.part c.requires.every
    (subst (λ n. c.loop-part.part < n) c.div_ceil-part-end.ensures c.loop-part-test.true) in
    let at : min c.args.to from ≡ from = here c.args.to c.args.every c.loop-part.part (omega (arith, lt)) in
    let end : min c.args.to (c.args.every * (c.loop-part.part + 1)) ≡ from + more =
    next_end c.args.to c.args.every c.loop-part.part lt ∙ ap (λ n. from + n) (sym c.min.ensures) in
    let there : All (IsMark Drawn Raw 0 c.args.packs.now) c.args.marks.now
    → HasPlayed Raw 0 (given_first Drawn (from + more) c.args.packs.now) after =
    λ marks. subst (λ (all : List Given). HasPlayed Raw 0 all after)
    (sym (given_on Drawn c.args.packs.now from more))
    (subst (λ n. HasPlayed Raw 0 (map Drawn (reverse (take n (drop from c.args.packs.now)))
    ++ given_first Drawn from c.args.packs.now) after) cut
    (c.draw_all.ensures.drawn Raw 0 (given_first Drawn from c.args.packs.now)
    (subst
    (λ n. HasPlayed Raw 0 (given_first Drawn n c.args.packs.now) (g.P.AnyPlayer.played c.loop-part.player))
    at
    (c.loop-part.invariant.there marks)))) in
    record {
      there = λ marks. subst (λ n. HasPlayed Raw 0 (given_first Drawn n c.args.packs.now) after) (sym end)
          (there marks);
      marks =
          λ marks. c.leave_mark.ensures.marks Drawn Raw 0 c.args.packs.now (c.loop-part.invariant.marks marks)
          (there marks);
    }

pub returns-clause-there : goal.returns-clause-there
returns-clause-there g c marks =
    subst
    (λ n. HasPlayed Raw 0 (given_first Drawn n c.args.packs.now) (g.P.AnyPlayer.played c.loop-part.player))
    (at_end c.args.to c.args.every c.loop-part.part c.requires.every
    (omega (arith, c.loop-part-test.false, c.div_ceil-part-end.ensures)))
    (c.loop-part.invariant.there marks)
