use Rattle.std.proofs.Common.{◌≡◌, replicate, set, get_or}
use Rattle.rw_code.proofs.Parity.{head_sums}
use Rattle.rw_code.proofs.pack.with_head.Goals as goal

pub returns-clause-first_four : goal.returns-clause-first_four
returns-clause-first_four c =
    let a = get_or c.args.head 0 c.index-head-0.result in
    let b = get_or c.args.head 1 c.index-head-1.result in
    let placed : c.with-4.result
    ≡ set (set (set (set (replicate 24 0) 0 a) 1 b) 2 c.push-parity.result.high) 3 c.push-parity.result.low =
    cc in
    head_sums _ _ _ _ _ _ _ c.with-4.result c.default-zero.ensures c.push.ensures c.push-parity.ensures placed
