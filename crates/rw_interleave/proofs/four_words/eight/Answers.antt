use Rattle.std.proofs.Common.{◌++◌, arith, length-append}
use Rattle.std.proofs.lemmas.Simd.{pick_l_whole}
use Rattle.rw_interleave.proofs.four_words.eight.Goals as goal

pub returns-clause-lanes : goal.returns-clause-lanes
returns-clause-lanes c =
    pick_l_whole 0 (c.args.low ++ c.args.high) 8
    (omega (arith, c.requires.low, c.requires.high, length-append c.args.low c.args.high))
