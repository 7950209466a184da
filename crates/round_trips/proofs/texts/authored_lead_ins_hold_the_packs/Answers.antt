use Rattle.round_trips.proofs.ListedTexts.{packs_held}
use Rattle.round_trips.proofs.texts.authored_lead_ins_hold_the_packs.Goals as goal

pub returns : goal.returns
returns c = packs_held
