use Rattle.std.proofs.Common.{ap, ◌∙◌, arith}
use Rattle.std.specs.Prelude.{◌&&◌, count_by}
use Rattle.std.specs.Str.{bytes_eq}
use Rattle.std.proofs.lemmas.List.{take_all}
use Rattle.rw_mend.specs.Chosen.{votes_for}
use Rattle.rw_mend.specs.HeldReadings.{held_blocks, is_eligible_for, part_of}
use Rattle.rw_mend.proofs.HeldBlocks.{held_count}
use Rattle.rw_mend.proofs.held_readings.HeldReadings.votes.Goals as goal

pub returns : goal.returns
unfolding votes_for
returns c =
    let held = c.args.self.now in
    let blocks = held_blocks held c.args.b in
    c.loop-r.invariant.count
    ∙ ap (count_by (λ block. is_eligible_for c.args.part.now blocks block
    && bytes_eq (part_of c.args.part.now block) c.args.own.now))
    (take_all c.loop-r.r blocks (omega (arith, held_count held c.args.b, c.loop-r-test.false)))
