use Rattle.std.proofs.Common.{ℕ, ◌≢◌, ◌≡◌, ◌<◌, replicate, subst, sym}
use Rattle.std.specs.Prelude.{MatchOption}
use Rattle.cdg_instructions.specs.Instruction.{IsTilePixels}
use Rattle.pack_schedule.proofs.PlannedLaws.{PlansAreShortest}
use Rattle.pack_schedule.proofs.Counting.{single_reported, weighed}
use Rattle.pack_schedule.proofs.change.tiles.weigh.Goals as goal

pub returns-clause-weighed : goal.returns-clause-weighed
returns-clause-weighed c =
    let p = c.plans_are_shortest.ensures in
    let plans : PlansAreShortest = record { turns = p.turns; count = p.count; least = p.least } in
    let tile = c.args.tile.now in
    let pixels = c.pixels-pixels.ensures in
    weighed plans tile c.weight.result c.then_some.result (subst IsTilePixels pixels.same pixels.tile)
    (subst
    (λ single.
    MatchOption single ((k : ℕ) → tile ≢ replicate 72 k) (λ k. (k < 16) × (tile ≡ replicate 72 k)))
    (sym c.then_some.ensures)
    (single_reported tile c.pixels-pixels.result.now c.eq-is_single.result pixels.tile pixels.same
    c.eq-is_single.ensures))
    c.weight.ensures.most c.weight.ensures.least c.weight.ensures.none
