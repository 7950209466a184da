use Rattle.std.proofs.Common.{Some}
use Rattle.round_trips.proofs.Pictured.{gives_picture}
use Rattle.round_trips.proofs.scheduled_screens.shown_moments_give_pictures.Goals as goal

pub returns : goal.returns
returns c form lead_in time all left out answer taken script k scheduled held shows answered =
    gives_picture form lead_in time (Some all) left out.before out.after answer taken
    c.screens_show_pictures.ensures.text c.screens_show_pictures.ensures.bad shows answered script k scheduled
    held
