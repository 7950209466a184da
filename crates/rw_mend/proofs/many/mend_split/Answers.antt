use Rattle.rw_mend.proofs.Heaps.{split_mended}
use Rattle.rw_mend.proofs.many.mend_split.Goals as goal

pub returns : goal.returns
returns c readings size is =
    split_mended (record {
      first = c.args.first;
      others = c.args.others;
      count = c.args.count;
      start = c.min.result;
    }) c.args.lead_in readings c.args.packs.now c.mend_all.new.packs c.args.sources.now c.mend_all.new.sources
    c.mend_all.result.tallies c.mend_all.result.lost size is c.requires.some c.requires.equal c.requires.whole
    c.min.ensures
    c.mend_all.ensures.mended c.mend_all.ensures.dropped
