use Rattle.std.proofs.Common.{rules}
use Rattle.bit_lists.proofs.Pairs.{takes_pair}
use Rattle.bit_lists.proofs.check.with_pair.Goals as goal

pub returns : goal.returns
returns c =
    takes_pair c.args.register c.args.first c.args.second c.from_be_bytes.result _ _ (search rules)
    (search rules) (search rules)
    c.from_be_bytes.ensures c.from.ensures c.from-2.ensures
