use Rattle.cdg_cmd.proofs.SecondHalf.{shown_back}
use Rattle.run_laws.proofs.conversions.scheduled_streams_show_their_pictures.Goals as goal

pub returns : goal.returns
returns c = λ lead_in at form call status is.
    shown_back form lead_in call.first.after call.second.before call.second.after call.out status
    c.shown_moments_give_pictures.ensures at call.first.before is.does
