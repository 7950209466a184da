use Rattle.std.proofs.Common.{◌+◌, ◌-◌, rules, arith}
use Rattle.cdg_io.specs.Pump.{units_of}
use Rattle.cdg_press.proofs.Rows.{left_whole, left_less, left_two_less, none_left}
use Rattle.cdg_press.proofs.thinner.ThinnerInPlace.change_row.Goals as goal

pub pairs-init : goal.pairs-init
pairs-init c = left_whole c.args.self.now c.args.packs.now c.args.count c.requires

pub overflow_sub-packs : goal.overflow_sub-packs
overflow_sub-packs c = omega (arith, c.pairs.invariant.size)

pub pairs-preserved : goal.pairs-preserved
pairs-preserved c =
    left_two_less c.args.self.now c.pairs.self c.change.new.self c.change-in-pairs.new.self
    (units_of 24 c.args.count c.args.packs.now) c.pairs.packs c.change.new.bytes
    c.change-in-pairs.new.bytes
    c.pairs.at (c.pairs.at + 24 - c.pairs.at) (c.pairs.at + 48 - (c.pairs.at + 24))
    (omega (arith, c.pairs.invariant.size, c.pairs-test.true)) (omega arith) (omega arith) (search rules)
    (search rules) c.change.ensures.next c.change.ensures.gives c.change-in-pairs.ensures.next
    c.change-in-pairs.ensures.gives c.pairs.invariant

pub rest-init : goal.rest-init
rest-init c = c.pairs.invariant

pub rest-preserved : goal.rest-preserved
rest-preserved c =
    left_less c.args.self.now c.rest.self c.change-in-rest.new.self
    (units_of 24 c.args.count c.args.packs.now)
    c.rest.packs c.change-in-rest.new.bytes c.rest.at (c.rest.at + 24 - c.rest.at) c.rest-test.true
    (omega arith) (search rules) c.change-in-rest.ensures.next c.change-in-rest.ensures.gives
    c.rest.invariant

pub returns-clause-next : goal.returns-clause-next
returns-clause-next c =
    (none_left c.args.self.now c.rest.self (units_of 24 c.args.count c.args.packs.now) c.rest.packs
    c.rest.at (omega (arith, c.rest-test.false)) c.rest.invariant).0

pub returns-clause-gives : goal.returns-clause-gives
returns-clause-gives c =
    (none_left c.args.self.now c.rest.self (units_of 24 c.args.count c.args.packs.now) c.rest.packs
    c.rest.at (omega (arith, c.rest-test.false)) c.rest.invariant).1
