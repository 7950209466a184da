use Rattle.live_player.proofs.LiveViews.{live_view, live_view_now}
use Rattle.live_player.proofs.live.LivePlayer.shows_its_blocks.Goals as goal

pub returns-clause-last : goal.returns-clause-last
returns-clause-last c form lead_in given played none =
    live_view form lead_in given c.args.self.now played none

pub returns-clause-so_far : goal.returns-clause-so_far
returns-clause-so_far c lead_in given played none = live_view_now lead_in given c.args.self.now played none
