use Rattle.std.proofs.Common.{◌<◌, length, sym, ◌∙◌, arith}
use Rattle.rw_mend.specs.HeldReadings.{held_blocks}
use Rattle.rw_mend.proofs.HeldBlocks.{held_count}
use Rattle.rw_mend.proofs.Ranks.{leads_if, leads_not, leads_surely}
use Rattle.rw_mend.proofs.held_readings.HeldReadings.leads.Goals as goal

pub returns-then-not-eligible-one : goal.returns-then-not-eligible-one
returns-then-not-eligible-one c =
    let one : c.args.one < length (held_blocks c.args.self.now c.args.b) =
    omega (arith, held_count c.args.self.now c.args.b, c.requires.one) in
    leads_not _ _ (sym (c.requires.eligible c.args.one one) ∙ c.if-not-eligible-one.true)

pub returns-then-not-eligible-other : goal.returns-then-not-eligible-other
returns-then-not-eligible-other c =
    let one : c.args.one < length (held_blocks c.args.self.now c.args.b) =
    omega (arith, held_count c.args.self.now c.args.b, c.requires.one) in
    let other : c.args.other < length (held_blocks c.args.self.now c.args.b) =
    omega (arith, held_count c.args.self.now c.args.b, c.requires.other) in
    leads_surely _ _ _ (sym (c.requires.eligible c.args.one one) ∙ c.if-not-eligible-one.false)
    (sym (c.requires.eligible c.args.other other) ∙ c.if-not-eligible-other.true)

pub returns : goal.returns
returns c =
    let one : c.args.one < length (held_blocks c.args.self.now c.args.b) =
    omega (arith, held_count c.args.self.now c.args.b, c.requires.one) in
    let other : c.args.other < length (held_blocks c.args.self.now c.args.b) =
    omega (arith, held_count c.args.self.now c.args.b, c.requires.other) in
    leads_if _ _ _ _ (sym (c.requires.eligible c.args.one one) ∙ c.if-not-eligible-one.false)
    (sym (c.requires.eligible c.args.other other) ∙ c.if-not-eligible-other.false) c.is_higher.ensures
