use Rattle.std.proofs.Common.{arith}
use Rattle.toc_model.proofs.Gaps.{pregaps_to-zero, postgaps_to-zero, pregaps_to-more, postgaps_to-more}
use Rattle.toc_model.proofs.place.gaps.Goals as goal

pub loop-k-init : goal.loop-k-init
loop-k-init c = record {
  sum = omega (arith, pregaps_to-zero c.args.sheet.now, postgaps_to-zero c.args.sheet.now);
  bound = omega arith;
}

pub loop-k-preserved : goal.loop-k-preserved
loop-k-preserved c =
    let sheet = c.args.sheet.now in
    let lt = c.loop-k-test.true in
    record {
      sum = omega (
        arith,
        pregaps_to-more sheet c.loop-k.k (omega arith),
        postgaps_to-more sheet c.loop-k.k (omega arith),
        c.loop-k.invariant.sum,
      );
      bound = omega (
        arith,
        (c.tracks-k-end.ensures.sheet.tracks c.loop-k.k (omega arith)).gaps,
        c.loop-k.invariant.bound,
      );
    }
