use Rattle.live_player.proofs.LiveViews.{packs_view}
use Rattle.live_player.proofs.live.LivePlayer.shows_its_packs.Goals as goal

pub returns : goal.returns
returns c form lead_in given played none = packs_view form lead_in given c.args.self.now played none
