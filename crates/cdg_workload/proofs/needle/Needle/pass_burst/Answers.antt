use Rattle.std.proofs.Common.{arith}
use Rattle.cdg_workload.proofs.BlockRuns.{burst_at, whole_burst}
use Rattle.cdg_workload.proofs.needle.Needle.pass_burst.Goals as goal

pub returns-then-room-gap-clause-next : goal.returns-then-room-gap-clause-next
returns-then-room-gap-clause-next c =
    (whole_burst c.args.self.now c.args.bytes.now c.combine_few.new.bytes c.args.at
    (omega (arith, c.if-left-le-MOST_BURST.true, c.if-room-gap.true)) c.combine_few.ensures.changed).0

pub returns-then-room-gap-clause-gives : goal.returns-then-room-gap-clause-gives
returns-then-room-gap-clause-gives c =
    (whole_burst c.args.self.now c.args.bytes.now c.combine_few.new.bytes c.args.at
    (omega (arith, c.if-left-le-MOST_BURST.true, c.if-room-gap.true)) c.combine_few.ensures.changed).1

pub returns-else-left-le-MOST_BURST-clause-next : goal.returns-else-left-le-MOST_BURST-clause-next
returns-else-left-le-MOST_BURST-clause-next c =
    let passed = c.pass.ensures in
    let struck = c.strike.ensures in
    let bytes = c.args.bytes.now in
    (burst_at c.args.self.now c.pass.new.self c.strike.new.self bytes c.combine.new.bytes c.args.at
    c.pass.result c.strike.result (omega (arith, passed.most, struck.most, c.requires.place)) passed.gap
    passed.next
    struck.left struck.begun struck.next c.combine.ensures.changed).0

pub returns-else-left-le-MOST_BURST-clause-gives : goal.returns-else-left-le-MOST_BURST-clause-gives
returns-else-left-le-MOST_BURST-clause-gives c =
    let passed = c.pass.ensures in
    let struck = c.strike.ensures in
    let bytes = c.args.bytes.now in
    (burst_at c.args.self.now c.pass.new.self c.strike.new.self bytes c.combine.new.bytes c.args.at
    c.pass.result c.strike.result (omega (arith, passed.most, struck.most, c.requires.place)) passed.gap
    passed.next
    struck.left struck.begun struck.next c.combine.ensures.changed).1
