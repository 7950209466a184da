use Rattle.std.proofs.Common.{[], ◌+◌, length, get_or, ap, arith}
use Rattle.live_player.proofs.Rows.{in_room, pixel_more}
use Rattle.live_player.proofs.line.write_more.Goals as goal

pub put_four-requires-clause-room : goal.put_four-requires-clause-room
put_four-requires-clause-room c =
    in_room c.args.size (c.args.from + c.loop-i.i) (c.args.from + c.args.count) (length c.loop-i.line)
    (omega (arith, c.loop-i-test.true)) (omega (arith, c.requires.room, c.loop-i.auto.line))

pub loop-i-preserved : goal.loop-i-preserved
loop-i-preserved c m k m_lt =
    let table = c.args.table.now in
    pixel_more c.loop-i.line c.put_four.new.line (get_or table c.from-colour.result [])
    (λ m k. get_or (get_or table (get_or c.args.pixels.now m 0) []) k 0) c.args.size 4
    (c.args.from + c.loop-i.i) c.requires.size
    (λ k. ap (λ p. get_or (get_or table p []) k 0) c.from-colour.ensures) c.put_four.ensures
    c.loop-i.invariant
    m k (omega (arith, m_lt))
