use Rattle.stream_stages.proofs.Counted.{four_idle}
use Rattle.stream_stages.proofs.counting.WordCounts.count_four_idle.Goals as goal

pub returns : goal.returns
returns c =
    four_idle c.args.self.now _ _ _ _ c.requires c.count_idle.ensures c.count_idle-2.ensures
    c.count_idle-3.ensures c.count_idle-4.ensures
