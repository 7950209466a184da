use Rattle.std.proofs.Common.{[], subst}
use Rattle.live_player.specs.Lives.{HasPlayed}
use Rattle.live_player.specs.Plain.{player_of}
use Rattle.ribjasper_web.proofs.playing.ribjasper_web_begin.Goals as goal

pub returns-clause-begun : goal.returns-clause-begun
returns-clause-begun c done =
    subst (λ form. HasPlayed form c.args.lead_in [] (player_of c.begin.new.self)) c.form_of.ensures
    c.begin.ensures
