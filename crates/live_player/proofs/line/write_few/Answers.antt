use Rattle.std.proofs.Common.{[], ◌-◌, length, get_or, ap, arith}
use Rattle.live_player.proofs.Rows.{pixel_more}
use Rattle.live_player.proofs.line.write_few.Goals as goal

pub returns : goal.returns
returns c m k m_lt =
    let table = c.args.table.now in
    pixel_more c.write_first.new.line c.put_front.new.line (get_or table c.from-last_colour.result [])
    (λ m k. get_or (get_or table (get_or c.args.pixels.now m 0) []) k 0) c.args.size c.args.size
    (length c.args.pixels.now - 1)
    (omega arith) (λ k. ap (λ p. get_or (get_or table p []) k 0) c.from-last_colour.ensures)
    c.put_front.ensures
    c.write_first.ensures m k (omega (arith, m_lt))
