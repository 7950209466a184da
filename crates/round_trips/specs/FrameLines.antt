-- The lines of the frames of a disc.
use Rattle.std.specs.Prelude.{ℕ, List, ◌++◌, map, Ok}
use Rattle.bit_lists.specs.Counting.{below}
use Rattle.q_channel.specs.declared.frame.QFrame.{QFrame}
use Rattle.toc_model.specs.Places.{DiscLayout}
use Rattle.toc_model.specs.Layout.{program_frame, toc_frame}
use Rattle.q_channel.specs.QList.{q_lines}

-- the frames of the lead-in blocks of a disc, and then those of its program blocks
abbrev pub stream_frames : DiscLayout → ℕ → List QFrame
stream_frames layout lead_in =
    map (toc_frame layout lead_in) (below lead_in) ++ map (program_frame layout) (below layout.blocks)

-- the lines of these frames; the first has the number 0
abbrev pub frame_lines : DiscLayout → ℕ → List ℕ
frame_lines layout lead_in = q_lines 0 (map (λ (frame : QFrame). Ok frame) (stream_frames layout lead_in))
