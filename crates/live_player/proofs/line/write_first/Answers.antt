use Rattle.std.proofs.Common.{arith}
use Rattle.live_player.proofs.PairBytes.{first_bytes}
use Rattle.live_player.proofs.line.write_first.Goals as goal

pub write_more-requires-clause-before : goal.write_more-requires-clause-before
write_more-requires-clause-before c =
    let are = rw c.in-Some.is at c.requires.pairs in
    first_bytes c.args.size c.args.paired c.args.pixels.now c.args.table.now c.in-Some.pairs.now
    c.write_pairs.new.line (omega arith) c.requires.numbers are c.write_pairs.ensures

pub returns-in-Some : goal.returns-in-Some
returns-in-Some c m k m_lt = c.write_more.ensures m k (omega (arith, m_lt, c.requires.paired))
