use Rattle.std.proofs.Common.{◌≡◌, ◌+◌, ◌-◌, length, take, drop, arith, rules}
use Rattle.cdg_workload.proofs.BlockRuns.{combined_few}
use Rattle.cdg_workload.proofs.needle.combine_few.Goals as goal

pub returns-clause-changed : goal.returns-clause-changed
returns-clause-changed c =
    let old = c.args.bytes.now in
    let mid = c.combine_each.new.bytes in
    let put = c.put_sixteen.new.row in
    let size : length mid ≡ length old = search rules in
    let sixteen : c.args.to + 16 - c.args.to ≡ 16 = omega arith in
    let kept : put ≡ take 16 (drop c.args.to old) = search rules in
    (combined_few old mid put c.args.from c.args.to (c.args.to + 16 - c.args.to) c.args.change
    size
    sixteen c.requires.order c.requires.few c.requires.within c.combine_each.ensures.changed
    c.combine_each.ensures.rest kept).0

pub returns-clause-rest : goal.returns-clause-rest
returns-clause-rest c =
    let old = c.args.bytes.now in
    let mid = c.combine_each.new.bytes in
    let put = c.put_sixteen.new.row in
    let size : length mid ≡ length old = search rules in
    let sixteen : c.args.to + 16 - c.args.to ≡ 16 = omega arith in
    let kept : put ≡ take 16 (drop c.args.to old) = search rules in
    (combined_few old mid put c.args.from c.args.to (c.args.to + 16 - c.args.to) c.args.change
    size
    sixteen c.requires.order c.requires.few c.requires.within c.combine_each.ensures.changed
    c.combine_each.ensures.rest kept).1
