use Rattle.std.proofs.Common.{◌∙◌}
use Rattle.rw_interleave.proofs.FourWords.{exchanged_lanes, lanes_exchanged, low_lanes}
use Rattle.rw_interleave.proofs.four_words.word.Goals as goal

pub of_eights-requires : goal.of_eights-requires
of_eights-requires c = low_lanes (exchanged_lanes c.args.outer c.args.middle)

pub returns : goal.returns
returns c =
    c.of_eights.ensures ∙ lanes_exchanged c.args.outer c.args.middle c.requires.outer c.requires.middle
