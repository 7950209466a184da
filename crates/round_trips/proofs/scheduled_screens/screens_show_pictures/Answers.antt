use Rattle.round_trips.proofs.Pictured.{picture_text, picture_bad}
use Rattle.round_trips.proofs.scheduled_screens.screens_show_pictures.Goals as goal

pub returns-clause-text : goal.returns-clause-text
returns-clause-text c form lead_in time script k bytes text bad scheduled held screen =
    picture_text c.packs_are_recovered.ensures form lead_in time script k bytes text bad scheduled held screen
    c.scheduled_pictures_are_shown.ensures

pub returns-clause-bad : goal.returns-clause-bad
returns-clause-bad c form lead_in time script k bytes text bad scheduled held screen =
    picture_bad c.packs_are_recovered.ensures form lead_in time script k bytes text bad scheduled held screen
    c.found_packs_are_the_text.ensures.bad
