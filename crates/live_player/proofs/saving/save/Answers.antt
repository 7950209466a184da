use Rattle.std.proofs.Common.{inr}
use Rattle.live_player.proofs.Saves.{is_none, refuses}
use Rattle.live_player.proofs.saving.save.Goals as goal

pub returns-in-Err : goal.returns-in-Err
returns-in-Err g c =
    let player = g.P.AnyPlayer.played c.args.player.now in
    refuses player c.args.file.now (inr (is_none _ _ player c.write_checkpoint.ensures c.in-Err.ensures))
