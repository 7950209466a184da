use Rattle.round_trips.proofs.Shown.{found_is}
use Rattle.round_trips.proofs.pressed.pressed_packs_come_back.Goals as goal

pub returns-clause-found : goal.returns-clause-found
returns-clause-found c form lead_in others press =
    found_is form lead_in others press c.packs_are_recovered.ensures
