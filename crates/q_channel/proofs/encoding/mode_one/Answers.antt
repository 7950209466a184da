use Rattle.std.proofs.Common.{rules}
use Rattle.q_channel.proofs.Spelled.{mode_one_from}
use Rattle.q_channel.proofs.encoding.mode_one.Goals as goal

pub returns : goal.returns
returns c =
    mode_one_from c.args.control c.args.track c.args.point c.args.time.now c.bcd.result c.args.last
    c.bcd.ensures (search rules)
