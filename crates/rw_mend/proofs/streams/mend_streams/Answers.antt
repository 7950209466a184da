use Rattle.std.proofs.Common.{refl}
use Rattle.rw_mend.proofs.Pairs.{two_mended}
use Rattle.rw_mend.proofs.streams.mend_streams.Goals as goal

pub returns : goal.returns
returns c =
    two_mended (record {
      first = c.args.first;
      others = c.args.second;
      count = 2;
      start = c.min.result;
    }) c.args.lead_in c.args.packs.now c.mend_two.new.packs c.mend_two.result refl c.min.ensures
    c.requires.equal
    c.requires.whole c.mend_two.ensures
