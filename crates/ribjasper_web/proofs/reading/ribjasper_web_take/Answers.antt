use Rattle.live_player.proofs.LiveViews.{fed_more}
use Rattle.live_player.specs.Plain.{player_of}
use Rattle.ribjasper_web.proofs.reading.ribjasper_web_take.Goals as goal

pub returns-in-Some-clause-fed : goal.returns-in-Some-clause-fed
returns-in-Some-clause-fed c form lead_in given played =
    let takes = c.step.ensures.takes in
    fed_more form lead_in given c.args.block.now (player_of c.args.player.now) (player_of c.step.new.self)
    c.told-block takes.gathers takes.draws takes.lead_in takes.counts takes.bad played

pub returns-in-None-clause-fed : goal.returns-in-None-clause-fed
returns-in-None-clause-fed c form lead_in given played =
    let takes = c.step.ensures.takes in
    fed_more form lead_in given c.args.block.now (player_of c.args.player.now) (player_of c.step.new.self)
    c.told-block takes.gathers takes.draws takes.lead_in takes.counts takes.bad played
