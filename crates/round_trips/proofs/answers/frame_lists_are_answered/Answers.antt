use Rattle.toc_model.specs.Places.{layout_of}
use Rattle.round_trips.specs.FrameLines.{frame_lines}
use Rattle.round_trips.proofs.Answering.{whole_blocks, lists_frames}
use Rattle.round_trips.proofs.answers.frame_lists_are_answered.Goals as goal

pub returns : goal.returns
returns c = λ sheet script lead_in audio bytes packs given left out result taken authored few lists answer.
    lists_frames bytes (frame_lines (layout_of sheet audio) lead_in) given left out result taken
    (whole_blocks sheet script lead_in audio bytes packs authored few)
    (λ text bad listed.
    c.authored_frames_are_listed.ensures sheet script lead_in audio bytes packs text bad authored listed)
    lists answer
