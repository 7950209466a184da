use Rattle.live_player.proofs.LiveViews.{fed_more}
use Rattle.live_player.proofs.live.LivePlayer.feed.Goals as goal

pub returns-clause-fed : goal.returns-clause-fed
returns-clause-fed c form lead_in given played =
    fed_more form lead_in given c.args.block.now c.args.self.now c.step.new.self c.told-block
    c.step.ensures.gathers c.step.ensures.draws c.step.ensures.lead_in c.step.ensures.blocks
    c.step.ensures.bad played
