use Rattle.std.proofs.Common.{◌+◌, get_or, arith}
use Rattle.std.proofs.lemmas.List.FromFn.{fill_by_all}
use Rattle.pack_schedule.proofs.change.colours.Goals as goal

pub returns : goal.returns
returns c =
    fill_by_all (λ n. get_or c.args.canvas.now.colours (c.args.from + n) 0) c.loop-n.colours 8 0
    c.loop-n.invariant.0
    (λ m lt. c.loop-n.invariant.1 m (omega (arith, lt, c.loop-n-test.false)))
