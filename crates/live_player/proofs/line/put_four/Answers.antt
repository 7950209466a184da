use Rattle.live_player.proofs.Rows.{bytes_put}
use Rattle.live_player.proofs.line.put_four.Goals as goal

pub returns : goal.returns
returns c n = bytes_put 4 c.args.line.now c.args.four.now c.args.at n c.requires.room c.requires.four
