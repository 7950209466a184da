use Rattle.std.proofs.Common.{[], ◌+◌, ◌*◌, get_or, ap₂, arith}
use Rattle.live_player.proofs.Rows.{pixel_more}
use Rattle.live_player.proofs.pairs.write_more_pairs.Goals as goal

pub put_eight-requires-clause-room : goal.put_eight-requires-clause-room
put_eight-requires-clause-room c =
    omega (
      arith,
      c.requires.room (c.args.from + c.loop-i.i) (omega (arith, c.loop-i-test.true)),
      c.loop-i.auto.line,
    )

pub loop-i-preserved : goal.loop-i-preserved
loop-i-preserved c m k m_lt =
    let pixels = c.args.pixels.now in
    let pairs = c.args.pairs.now in
    pixel_more c.loop-i.line c.put_eight.new.line
    (get_or pairs (c.from-first.result + 16 * c.from-second.result) [])
    (λ m k. get_or (get_or pairs (get_or pixels (2 * m) 0 + 16 * get_or pixels (2 * m + 1) 0) []) k 0)
    (2 * c.args.size) 8 (c.args.from + c.loop-i.i) (omega (arith, c.requires.size))
    (λ k. ap₂ (λ p q. get_or (get_or pairs (p + 16 * q) []) k 0) c.from-first.ensures c.from-second.ensures)
    c.put_eight.ensures c.loop-i.invariant m k (omega (arith, m_lt))
