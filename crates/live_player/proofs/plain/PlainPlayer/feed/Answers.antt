use Rattle.live_player.proofs.LiveViews.{fed_more}
use Rattle.live_player.specs.Plain.{player_of}
use Rattle.live_player.proofs.plain.PlainPlayer.feed.Goals as goal

pub returns-clause-fed : goal.returns-clause-fed
returns-clause-fed c form lead_in given played =
    let takes = c.step.ensures.takes in
    fed_more form lead_in given c.args.block.now (player_of c.args.self.now) (player_of c.step.new.self)
    c.told-block takes.gathers takes.draws takes.lead_in takes.counts takes.bad played
