use Rattle.std.proofs.Common.{arith, ◌≡◌, ap, ◌∙◌}
use Rattle.std.specs.Prelude.{map}
use Rattle.bit_lists.specs.Counting.{below}
use Rattle.tile_author.specs.Plan.{planned}
use Rattle.tile_author.proofs.Reading.{one_more_planned, planned_length, whole_weight}
use Rattle.tile_author.proofs.basis.Basis.instructions.Goals as goal

pub push-requires : goal.push-requires
push-requires c =
    let ps = c.args.pixels.now in
    let size =
    planned_length c.args.draws c.args.row c.args.column ps c.loop-j.j c.loop-j.instrs.items
    c.loop-j.invariant in
    (omega arith, omega (arith, c.weight-j-end.ensures.most))

pub loop-j-preserved : goal.loop-j-preserved
loop-j-preserved c =
    one_more_planned c.args.draws c.args.row c.args.column c.args.pixels.now c.loop-j.j c.loop-j.instrs.items
    _ _ c.loop-j.invariant c.instruction.ensures c.push.ensures.items

pub returns : goal.returns
returns c =
    let ps = c.args.pixels.now in
    let f = planned c.args.draws c.args.row c.args.column ps in
    let whole =
    whole_weight c.args.self.now ps c.weight-j-end.result c.requires.members c.weight-j-end.ensures.value in
    let end : c.loop-j.j ≡ c.weight-j-end.result = omega arith in
    c.loop-j.invariant ∙ ap (λ n. map f (below n)) (end ∙ whole)
