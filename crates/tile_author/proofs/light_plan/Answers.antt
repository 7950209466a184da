use Rattle.std.proofs.Common.{◌≡◌, true, length, refl, sym, ap, ◌∙◌, arith}
use Rattle.tile_author.specs.Plan.{planned, weight}
use Rattle.tile_author.proofs.Answering.{light_is, weight_of}
use Rattle.tile_author.proofs.light_plan.Goals as goal

pub returns-then-weight-gt1-clause-some : goal.returns-then-weight-gt1-clause-some
returns-then-weight-gt1-clause-some c =
    let known : c.weight.result ≡ weight c.args.new.now =
    weight_of c.of-drawn.result c.pixels-pixels.result.now c.weight.result c.of-drawn.ensures
    c.weight.ensures.value
    ∙ ap weight c.pixels-pixels.ensures.same in (
      (λ some. absurd (cc)),
      (λ one. absurd (omega (arith, known, one, c.if-weight-gt1.true))),
    )

pub returns-clause-plan : goal.returns-clause-plan
returns-clause-plan c = λ old size other.
    let same = c.pixels-pixels.ensures.same in
    let new_size = ap length (sym same) ∙ c.pixels-pixels.ensures.tile.count in
    let known : c.weight.result ≡ weight c.args.new.now =
    weight_of c.of-drawn.result c.pixels-pixels.result.now c.weight.result c.of-drawn.ensures
    c.weight.ensures.value
    ∙ ap weight same in
    light_is c.args.row c.args.column old c.args.new.now c.instruction.result size new_size other
    (omega (arith, known, c.if-weight-gt1.false, c.weight.ensures.some))
    (c.instruction.ensures ∙ ap (λ pixels. planned true c.args.row c.args.column pixels 0) same)

pub returns-clause-some : goal.returns-clause-some
returns-clause-some c =
    let known : c.weight.result ≡ weight c.args.new.now =
    weight_of c.of-drawn.result c.pixels-pixels.result.now c.weight.result c.of-drawn.ensures
    c.weight.ensures.value
    ∙ ap weight c.pixels-pixels.ensures.same in (
      (λ some. omega (arith, known, c.if-weight-gt1.false, c.weight.ensures.some)),
      (λ one. refl),
    )
