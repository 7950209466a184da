use Rattle.live_player.proofs.Rows.{bytes_put}
use Rattle.live_player.proofs.pairs.put_eight.Goals as goal

pub returns : goal.returns
returns c n = bytes_put 8 c.args.line.now c.args.eight.now c.args.at n c.requires.room c.requires.eight
