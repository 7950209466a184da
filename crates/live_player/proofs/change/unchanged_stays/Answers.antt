use Rattle.live_player.specs.Changes.{watch_from}
use Rattle.live_player.proofs.Kept.{decides}
use Rattle.std.proofs.Common.{refl}
use Rattle.live_player.proofs.change.unchanged_stays.Goals as goal

pub returns : goal.returns
returns c now instrs whole =
    (decides c.untouched_stays.ensures instrs (watch_from now.h now.v) now whole refl refl).keeps
