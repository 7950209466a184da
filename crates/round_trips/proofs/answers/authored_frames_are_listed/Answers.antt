use Rattle.toc_model.specs.Places.{layout_of}
use Rattle.subcode_author.specs.Authored.{text_packs}
use Rattle.round_trips.proofs.ListedFrames.{frames_listed}
use Rattle.round_trips.proofs.answers.authored_frames_are_listed.Goals as goal

pub returns : goal.returns
returns c = λ sheet script lead_in audio bytes packs text bad authored listed.
    frames_listed (layout_of sheet audio) (text_packs sheet) lead_in bytes authored.framing
    c.bits_have_one_reading.ensures text bad listed
